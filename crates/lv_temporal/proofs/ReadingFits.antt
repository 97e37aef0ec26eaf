-- Readings stand over the own symbols, the witnesses and the labels.
use Rattle.std.proofs.Common.{◌≡◌, ℕ, zero, suc, ◌+◌, ◌-◌, ◌<◌, Bool, true, false, ◌&&◌, cond, List, [], ◌∷◌, ◌++◌, map, length, get_or, slice_get, reverse, Some, None, refl, sym, ap, subst, ◌∙◌, arith, le_of_lt, eq-eqb, ne_eqb}
use Rattle.std.proofs.lemmas.Bool.{and_from, and_parts}
use Rattle.std.proofs.lemmas.List.{get_or-reverse, length-map, length-reverse}
use Rattle.std.proofs.lemmas.Option.{slice_get-get_or}
use Rattle.lv_formula.specs.declared.symbols.SortId.{SortId}
use Rattle.lv_formula.specs.declared.symbols.Sym.{Sym}
use Rattle.lv_formula.specs.declared.symbols.Sym.TheVariants.{Label}
use Rattle.lv_formula.specs.declared.terms.Term.TheVariants.{Var}
use Rattle.lv_formula.specs.declared.vocabulary.RelShape.{RelShape}
use Rattle.lv_formula.specs.declared.vocabulary.Vocabulary.{Vocabulary}
use Rattle.lv_formula.specs.declared.formula.Formula.TheVariants as F
use Rattle.lv_formula.specs.declared.temporal.Temporal.{Temporal}
use Rattle.lv_formula.specs.declared.temporal.Temporal.TheVariants as T
use Rattle.lv_formula.specs.Symbols.{sym_eq}
use Rattle.lv_formula.specs.Vocabulary.{relation_in}
use Rattle.lv_formula.specs.Fits.{all_fit_in, are_arguments, fits_in, fits_step, have_sorts, is_sort}
use Rattle.lv_formula.specs.TemporalFits.{temporal_fits_in, all_temporal_fit_in}
use Rattle.lv_formula.proofs.Folds.{fold_at-Atom, fold_at-Not, folds_at as formulas}
use Rattle.lv_formula.proofs.Induction.{Each}
use Rattle.lv_formula.proofs.SymbolLaws.{sym_eq-refl}
use Rattle.lv_formula.proofs.TemporalFolds.{folds_at}
use Rattle.lv_formula.proofs.TemporalInduction.{by_cases}
use Rattle.lv_system.specs.declared.parts.Parts.{Parts}
use Rattle.lv_system.specs.Lasso.{fair_at}
use Rattle.lv_system.specs.Vocabularies.{own_vocabulary, witness_vocabulary}
use Rattle.lv_labels.specs.Labels.{key_of, keys_each, keys_of, label_atom, labelled, labels_of, number_of, plain, read_each, reading}
use Rattle.lv_labels.specs.Problem.{Condition, choice_at, choice_of, justice_at, label_at, label_condition, label_justice, no_condition, problem_of, shapes_from, state_vocabulary, tuple_variables}
use Rattle.lv_labels.specs.Renaming.{free_variables}
use Rattle.lv_temporal.specs.TrueLabels.{key_at, witness_at}
use Rattle.lv_labels.proofs.InContext.{fits_below}
use Rattle.lv_temporal.proofs.Fits.{Extends, atom_more, binder_more, fits_plain, same_more}
use Rattle.lv_temporal.proofs.FitsMore.{fits_more}
use Rattle.lv_labels.proofs.Keys.{sort_at}
use Rattle.lv_labels.proofs.LabelsAt.{keys, read-Always, read-Eventually, read_with, reads}
use Rattle.lv_labels.proofs.Occurrences.{free_each}
use Rattle.lv_labels.proofs.Once.{each_first, each_second}
use Rattle.lv_labels.proofs.Plain.{whole_plain}
use Rattle.lv_temporal.proofs.Scoped.{IsScoped}
use Rattle.lv_labels.proofs.Table.{AreIn, IsIn}
use Rattle.lv_temporal.proofs.TableFits.{all_witnesses, key_inside, key_stands, property_inside, witness_inside}
use Rattle.lv_temporal.proofs.Turns.{justice_conditions}
use Rattle.lv_temporal.proofs.Unrolled.{choice_at_is, label_at_is}
use Rattle.lv_temporal.proofs.Vocabularies.{label_apart, no_own_relation, own_extends, witness_extends}

-- ---- labels in a vocabulary

relation_first : (xs ys : List RelShape) (r : Sym) (ss : List SortId) → relation_in xs r ≡ Some ss → relation_in (xs ++ ys) r ≡ Some ss
relation_first [] ys r ss h = cc
relation_first (x ∷ xs) ys r ss h = go (sym_eq x.sym r) h (relation_first xs ys r ss)
  where
    go : (b : Bool) → cond b (Some x.sorts) (relation_in xs r) ≡ Some ss → (relation_in xs r ≡ Some ss → relation_in (xs ++ ys) r ≡ Some ss) → cond b (Some x.sorts) (relation_in (xs ++ ys) r) ≡ Some ss
    go true e ih = e
    go false e ih = ih e

relation_second : (xs ys : List RelShape) (r : Sym) → relation_in xs r ≡ None → relation_in (xs ++ ys) r ≡ relation_in ys r
relation_second [] ys r h = refl
relation_second (x ∷ xs) ys r h = go (sym_eq x.sym r) h (relation_second xs ys r)
  where
    go : (b : Bool) → cond b (Some x.sorts) (relation_in xs r) ≡ None → (relation_in xs r ≡ None → relation_in (xs ++ ys) r ≡ relation_in ys r) → cond b (Some x.sorts) (relation_in (xs ++ ys) r) ≡ relation_in ys r
    go true e ih = cc
    go false e ih = ih e

labels_apart : (i j : ℕ) → (i ≡ j → ⊥) → sym_eq (Label i) (Label j) ≡ false
unfolding sym_eq
labels_apart i j h = ne_eqb i j h

shape_found : (b : ℕ) (cs : List Condition) (n : ℕ) → n < length cs → relation_in (shapes_from Label b cs) (Label (b + n)) ≡ Some (get_or cs n no_condition).sorts
shape_found b [] n lt = absurd (omega arith)
shape_found b (c ∷ cs) zero lt = ap (λ t. cond t (Some c.sorts) (relation_in (shapes_from Label (suc b) cs) (Label (b + 0)))) (ap (λ x. sym_eq (Label b) (Label x)) (plus_zero b) ∙ sym_eq-refl (Label b))
  where
    plus_zero : (b : ℕ) → b + 0 ≡ b
    plus_zero b = omega arith
shape_found b (c ∷ cs) (suc n) lt = ap (λ t. cond t (Some c.sorts) (relation_in (shapes_from Label (suc b) cs) (Label (b + suc n)))) (labels_apart b (b + suc n) (apart b n))
    ∙ (ap (λ x. relation_in (shapes_from Label (suc b) cs) (Label x)) (plus_suc b n) ∙ shape_found (suc b) cs n (omega arith))
  where
    plus_suc : (b n : ℕ) → b + suc n ≡ suc b + n
    plus_suc b n = omega arith

    apart : (b n : ℕ) → b ≡ b + suc n → ⊥
    apart b n e = omega (arith, e)

-- the vocabulary of a labelled run has the own symbols and the witnesses
pub state_extends : (p : Parts) → Extends (all_witnesses p) (state_vocabulary (problem_of p))
state_extends p = record {
  sorts = refl;
  relations = λ r ss h. relation_first (all_witnesses p).relations (shapes_from Label 0 (problem_of p).labels) r ss h;
  constants = λ c s h. h;
}

-- and each label with its sorts
pub label_found : (p : Parts) (n : ℕ) → n < length (labels_of p) → relation_in (state_vocabulary (problem_of p)).relations (Label n) ≡ Some (key_at p n).sorts
label_found p n lt =
    relation_second (all_witnesses p).relations (shapes_from Label 0 (problem_of p).labels) (Label n) (no_own_relation (Label n) (label_apart n) 0 p.symbols)
    ∙ (ap (λ x. relation_in (shapes_from Label 0 (problem_of p).labels) (Label x)) (zero_plus n)
    ∙ (shape_found 0 (problem_of p).labels n (rw (length-map (labels_of p) (label_condition (labels_of p))) lt)
    ∙ ap (λ c. Some (c.sorts)) (label_at_is p n lt)))
  where
    zero_plus : (n : ℕ) → n ≡ 0 + n
    zero_plus n = omega arith

extends_twice : (a b c : Vocabulary) → Extends a b → Extends b c → Extends a c
extends_twice a b c h k = record { sorts = h.sorts ∙ k.sorts; relations = λ r ss e. k.relations r ss (h.relations r ss e); constants = λ x s e. k.constants x s (h.constants x s e) }

-- it has the own symbols
pub own_in_state : (p : Parts) → Extends (own_vocabulary p) (state_vocabulary (problem_of p))
own_in_state p = extends_twice (own_vocabulary p) (all_witnesses p) (state_vocabulary (problem_of p)) (own_extends p (length p.witnesses)) (state_extends p)

-- ---- readings

module _ (p : Parts) (voc : Vocabulary) (extends : Extends voc (state_vocabulary (problem_of p))) where
  abbrev state : Vocabulary
  state = state_vocabulary (problem_of p)

  vars_have_sorts : (c : List SortId) (vs : List ℕ) → Each (λ v. v < length c) vs → have_sorts state c (map Var vs) (map (sort_at c) vs) ≡ true
  vars_have_sorts c [] h = refl
  vars_have_sorts c (v ∷ vs) h = and_from (is_sort (slice_get c v) (sort_at c v)) (have_sorts state c (map Var vs) (map (sort_at c) vs))
      (ap (λ o. is_sort o (sort_at c v)) (slice_get-get_or c v (record { 0 = 0 }) h.0) ∙ eq-eqb (sort_at c v).0 (sort_at c v).0 refl) (vars_have_sorts c vs h.1)

  atom_fits : (f : Temporal) (c : List SortId) → temporal_fits_in voc c f ≡ true → IsIn (labels_of p) (key_of c f) → fits_in state c (label_atom (labels_of p) c f) ≡ true
  atom_fits f c fits w =
      fold_at-Atom Bool (List SortId) (fits_step state) (Label (number_of (labels_of p) (key_of c f))) (map Var (free_variables f)) c
      ∙ (ap (are_arguments state c (map Var (free_variables f))) (label_found p (number_of (labels_of p) (key_of c f)) w.0 ∙ ap (λ k. Some (k.sorts)) w.1)
      ∙ vars_have_sorts c (free_variables f) (free_each (λ v. v < length c) f (fits_below voc f c fits)))

  abbrev Stands : Temporal → Type 0
  Stands f = (c : List SortId) → temporal_fits_in voc c f ≡ true → AreIn (labels_of p) c f → fits_in state c (reading (labels_of p) c f) ≡ true

  all_stand : (fs : List Temporal) → Each Stands fs → (c : List SortId) → all_temporal_fit_in voc c fs ≡ true → Each (IsIn (labels_of p)) (keys_each (map labelled fs) c) → all_fit_in state c (read_each (map (read_with (labels_of p)) fs) c) ≡ true
  all_stand [] each c fits w = refl
  all_stand (f ∷ fs) each c fits w = let both = and_parts (temporal_fits_in voc c f) (all_temporal_fit_in voc c fs) fits in
      and_from (fits_in state c (reading (labels_of p) c f)) (all_fit_in state c (read_each (map (read_with (labels_of p)) fs) c))
      (each.0 c both.0 (each_first (IsIn (labels_of p)) (keys_of f c) (keys_each (map labelled fs) c) w))
      (all_stand fs each.1 c both.1 (each_second (IsIn (labels_of p)) (keys_of f c) (keys_each (map labelled fs) c) w))

  both_stand : (f g : Temporal) → Stands f → Stands g → (c : List SortId) → (temporal_fits_in voc c f && temporal_fits_in voc c g) ≡ true → Each (IsIn (labels_of p)) (keys_of f c ++ keys_of g c)
      → (fits_in state c (reading (labels_of p) c f) && fits_in state c (reading (labels_of p) c g)) ≡ true
  both_stand f g ihf ihg c fits w = let both = and_parts (temporal_fits_in voc c f) (temporal_fits_in voc c g) fits in
      and_from (fits_in state c (reading (labels_of p) c f)) (fits_in state c (reading (labels_of p) c g))
      (ihf c both.0 (each_first (IsIn (labels_of p)) (keys_of f c) (keys_of g c) w)) (ihg c both.1 (each_second (IsIn (labels_of p)) (keys_of f c) (keys_of g c) w))

  always_stands : (f : Temporal) (c : List SortId) → temporal_fits_in voc c f ≡ true → IsIn (labels_of p) (key_of c (plain f)) → fits_in state c (reading (labels_of p) c (T.Always f)) ≡ true
  always_stands f c fits w = ap (fits_in state c) (read-Always (labels_of p) f c ∙ ap (label_atom (labels_of p) c) (whole_plain (labels_of p) f)) ∙ atom_fits (plain f) c (fits_plain voc f c ∙ fits) w

  eventually_stands : (f : Temporal) (c : List SortId) → temporal_fits_in voc c f ≡ true → IsIn (labels_of p) (key_of c (T.Not (plain f))) → fits_in state c (reading (labels_of p) c (T.Eventually f)) ≡ true
  eventually_stands f c fits w = ap (fits_in state c) (read-Eventually (labels_of p) f c ∙ ap (λ g. F.Not (label_atom (labels_of p) c (T.Not g))) (whole_plain (labels_of p) f))
      ∙ (fold_at-Not Bool (List SortId) (fits_step state) (label_atom (labels_of p) c (T.Not (plain f))) c ∙ atom_fits (T.Not (plain f)) c (simp folds_at (fits_plain voc f c ∙ fits)) w)

  -- the reading of a temporal formula whose labels are in the table stands where the formula does
  pub reading_fits : (f : Temporal) → Stands f
  reading_fits = by_cases Stands record {
    at_true = λ c fits w. simp (reads, formulas) refl;
    at_false = λ c fits w. simp (reads, formulas) refl;
    at_atom = λ s ts c fits w. simp (reads, formulas) (atom_more voc state extends c s ts (simp folds_at at fits));
    at_same = λ a b c fits w. simp (reads, formulas) (same_more voc state extends c a b (simp folds_at at fits));
    at_not = λ f ih c fits w. simp (reads, formulas) (ih c (simp folds_at at fits) (simp keys at w));
    at_and = λ fs each c fits w. simp (reads, formulas) (all_stand fs each c (simp folds_at at fits) (simp keys at w));
    at_or = λ fs each c fits w. simp (reads, formulas) (all_stand fs each c (simp folds_at at fits) (simp keys at w));
    at_implies = λ f g ihf ihg c fits w. simp (reads, formulas) (both_stand f g ihf ihg c (simp folds_at at fits) (simp keys at w));
    at_iff = λ f g ihf ihg c fits w. simp (reads, formulas) (both_stand f g ihf ihg c (simp folds_at at fits) (simp keys at w));
    at_all = λ s f ih c fits w. let k : AreIn (labels_of p) (s ∷ c) f = simp keys at w in
        simp (reads, formulas) (binder_more voc state extends s (temporal_fits_in voc (s ∷ c) f) (fits_in state (s ∷ c) (reading (labels_of p) (s ∷ c) f)) (λ h. ih (s ∷ c) h k) (simp folds_at at fits));
    at_any = λ s f ih c fits w. let k : AreIn (labels_of p) (s ∷ c) f = simp keys at w in
        simp (reads, formulas) (binder_more voc state extends s (temporal_fits_in voc (s ∷ c) f) (fits_in state (s ∷ c) (reading (labels_of p) (s ∷ c) f)) (λ h. ih (s ∷ c) h k) (simp folds_at at fits));
    at_always = λ f ih c fits w. let inner : IsIn (labels_of p) (key_of c (plain f)) × AreIn (labels_of p) c f = simp keys at w in always_stands f c (simp folds_at at fits) inner.0;
    at_eventually = λ f ih c fits w. let inner : IsIn (labels_of p) (key_of c (T.Not (plain f))) × AreIn (labels_of p) c f = simp keys at w in eventually_stands f c (simp folds_at at fits) inner.0;
  }

-- ---- the formulas of a problem

-- the variables of a tuple of the sorts, in the context of the sorts
variables_have_sorts : (voc : Vocabulary) (c ss : List SortId) → ((k : ℕ) → k < length ss → slice_get c k ≡ Some (sort_at ss (length ss - 1 - k))) → have_sorts voc c (tuple_variables (length ss)) ss ≡ true
variables_have_sorts voc c [] h = refl
variables_have_sorts voc c (s ∷ ss) h = and_from (is_sort (slice_get c (length ss)) s) (have_sorts voc c (tuple_variables (length ss)) ss)
    (ap (λ o. is_sort o s) (h (length ss) (omega arith) ∙ ap (λ k. Some (sort_at (s ∷ ss) k)) first) ∙ eq-eqb s.0 s.0 refl)
    (variables_have_sorts voc c ss (λ k l. h k (omega arith) ∙ ap (λ j. Some (sort_at (s ∷ ss) j)) (later k l)))
  where
    first : suc (length ss) - 1 - length ss ≡ 0
    first = omega arith

    later : (k : ℕ) → k < length ss → suc (length ss) - 1 - k ≡ suc (length ss - 1 - k)
    later k l = omega arith

tuple_fits : (voc : Vocabulary) (ss : List SortId) → have_sorts voc (reverse ss) (tuple_variables (length ss)) ss ≡ true
tuple_fits voc ss = variables_have_sorts voc (reverse ss) ss (λ k l. slice_get-get_or (reverse ss) k (record { 0 = 0 }) (inside k l) ∙ ap Some (get_or-reverse ss k (record { 0 = 0 }) l))
  where
    inside : (k : ℕ) → k < length ss → k < length (reverse ss)
    inside k l = rw (length-reverse ss) l

module _ (p : Parts) (scoped : IsScoped p) where
  -- the reading of the negated property
  pub denied_fits : fits_in (state_vocabulary (problem_of p)) [] (problem_of p).denied ≡ true
  denied_fits = simp formulas (reading_fits p (own_vocabulary p) (own_in_state p) p.property [] scoped.property (property_inside p))

  choice_fits : (k : ℕ) → k < length p.witnesses → fits_in (state_vocabulary (problem_of p)) ((witness_at p k).sort ∷ []) (reading (labels_of p) ((witness_at p k).sort ∷ []) (witness_at p k).formula) ≡ true
  choice_fits k lt = reading_fits p (witness_vocabulary p k) (extends_twice (witness_vocabulary p k) (all_witnesses p) (state_vocabulary (problem_of p)) (witness_extends p k (length p.witnesses) (le_of_lt lt)) (state_extends p))
      (witness_at p k).formula ((witness_at p k).sort ∷ []) (scoped.witnesses k lt) (witness_inside p k lt)

  -- the readings of the witness formulas
  pub choices_fit : (k : ℕ) → k < length (problem_of p).choices → fits_in (state_vocabulary (problem_of p)) ((choice_at (problem_of p) k).sort ∷ []) (choice_at (problem_of p) k).body ≡ true
  choices_fit k b = let lt : k < length p.witnesses = rw (length-map p.witnesses (choice_of (labels_of p))) at b in
      subst (λ c. fits_in (state_vocabulary (problem_of p)) (c.sort ∷ []) c.body ≡ true) (sym (choice_at_is p k lt)) (choice_fits k lt)

  body_fits : (n : ℕ) → n < length (labels_of p) → fits_in (state_vocabulary (problem_of p)) (reverse (key_at p n).sorts) (reading (labels_of p) (reverse (key_at p n).sorts) (key_at p n).inner) ≡ true
  body_fits n lt = reading_fits p (all_witnesses p) (state_extends p) (key_at p n).inner (reverse (key_at p n).sorts) (key_stands p scoped n lt) (key_inside p n lt)

  -- the bodies of the labels
  pub labels_fit : (n : ℕ) → n < length (problem_of p).labels → fits_in (state_vocabulary (problem_of p)) (reverse (label_at (problem_of p) n).sorts) (label_at (problem_of p) n).body ≡ true
  labels_fit n b = let lt : n < length (labels_of p) = rw (length-map (labels_of p) (label_condition (labels_of p))) at b in
      subst (λ c. fits_in (state_vocabulary (problem_of p)) (reverse c.sorts) c.body ≡ true) (sym (label_at_is p n lt)) (body_fits n lt)

  abbrev Fitting : Condition → Type 0
  Fitting c = fits_in (state_vocabulary (problem_of p)) (reverse c.sorts) c.body ≡ true

  justice_of_label : (n : ℕ) → n < length (labels_of p) → fits_in (state_vocabulary (problem_of p)) (reverse (key_at p n).sorts) (label_justice (labels_of p) n (key_at p n)).body ≡ true
  justice_of_label n lt = simp formulas (and_from (are_arguments (state_vocabulary (problem_of p)) (reverse (key_at p n).sorts) (tuple_variables (length (key_at p n).sorts)) (relation_in (state_vocabulary (problem_of p)).relations (Label n))) _
      (ap (are_arguments (state_vocabulary (problem_of p)) (reverse (key_at p n).sorts) (tuple_variables (length (key_at p n).sorts))) (label_found p n lt) ∙ tuple_fits (state_vocabulary (problem_of p)) (key_at p n).sorts)
      (and_from (fits_in (state_vocabulary (problem_of p)) (reverse (key_at p n).sorts) (reading (labels_of p) (reverse (key_at p n).sorts) (key_at p n).inner)) true (body_fits n lt) refl))

  -- the justice conditions
  pub justice_fits : (j : ℕ) → j < length (problem_of p).justice → fits_in (state_vocabulary (problem_of p)) (reverse (justice_at (problem_of p) j).sorts) (justice_at (problem_of p) j).body ≡ true
  justice_fits = justice_conditions Fitting p
      (λ j lt. fits_more (own_vocabulary p) (state_vocabulary (problem_of p)) (own_in_state p) (fair_at p j).condition (reverse (fair_at p j).params) (scoped.fairs j lt))
      justice_of_label
