-- The reading of a temporal formula, with the true tables of the labels, is true where the formula holds.
use Rattle.std.proofs.Common.{◌≡◌, ℕ, zero, suc, ◌<◌, Bool, true, not, ◌&&◌, ◌||◌, ltb, eqb, List, [], ◌∷◌, ◌++◌, map, length, get_or, reverse, None, refl, sym, ap, ap₂, ◌∙◌, arith, lt-ltb}
use Rattle.std.proofs.lemmas.Bool.{and_from, and_parts, false≢true}
use Rattle.lv_formula.specs.declared.symbols.SortId.{SortId}
use Rattle.lv_formula.specs.declared.symbols.Sym.{Sym}
use Rattle.lv_formula.specs.declared.symbols.Sym.TheVariants.{Own, Witness, Label, Frozen, Saved, Touched, Kept, Due, Copy, CopyLabel, Next, Param}
use Rattle.lv_formula.specs.declared.terms.Term.{Term}
use Rattle.lv_formula.specs.declared.terms.Term.TheVariants.{Var, Const}
use Rattle.lv_formula.specs.declared.vocabulary.Vocabulary.{Vocabulary}
use Rattle.lv_formula.specs.declared.formula.Formula.TheVariants as F
use Rattle.lv_formula.specs.declared.temporal.Temporal.{Temporal}
use Rattle.lv_formula.specs.declared.temporal.Temporal.TheVariants as T
use Rattle.lv_formula.specs.Vocabulary.{relation_in}
use Rattle.lv_formula.specs.Fits.{are_arguments}
use Rattle.lv_formula.specs.TemporalFits.{temporal_fits_in, all_temporal_fit_in}
use Rattle.lv_formula.proofs.Induction.{Each}
use Rattle.lv_formula.proofs.Folds.{fold_at-Atom, fold_at-Not, folds_at as truths}
use Rattle.lv_formula.proofs.TemporalFolds.{folds_at}
use Rattle.lv_formula.proofs.TemporalInduction.{by_cases}
use Rattle.lv_formula.specs.Meaning.{Meaning, in_range, is_element}
use Rattle.lv_formula.specs.Truth.{Env, value_of, values_of, truth_in, truth_step, all_true_in, any_true_in, iff}
use Rattle.lv_system.specs.declared.parts.Parts.{Parts}
use Rattle.lv_system.specs.TemporalTruth.{Lasso, holds, at_each_later, value_with, with_witnesses, all_hold, any_holds}
use Rattle.lv_labels.specs.Once.{is_among}
use Rattle.lv_labels.specs.Renaming.{occurrences_of, free_variables, renamed, renumbered}
use Rattle.lv_labels.specs.Labels.{key_of, keys_of, keys_each, label_atom, labelled, labels_of, number_of, plain, read_each, reading}
use Rattle.lv_labels.specs.Positions.{holds_at}
use Rattle.lv_temporal.specs.TrueLabels.{key_at, position_of, true_table}
use Rattle.lv_formula.proofs.Below.{all_below_same, any_below_same}
use Rattle.lv_labels.proofs.Later.{later_same}
use Rattle.lv_labels.proofs.InContext.{fits_below}
use Rattle.lv_temporal.proofs.Fits.{fits_plain}
use Rattle.lv_labels.proofs.HoldsAt.{held, holds-Always}
use Rattle.lv_labels.proofs.Keys.{sort_at}
use Rattle.lv_labels.proofs.LabelsAt.{keys, reads, read_with, read-Always, read-Eventually}
use Rattle.lv_labels.proofs.Occurrences.{free_each, free_has, renumbered_reads}
use Rattle.lv_labels.proofs.Once.{each_first, each_second, each_weaker}
use Rattle.lv_labels.proofs.Plain.{holds_plain, whole_plain}
use Rattle.lv_temporal.proofs.Renaming.{Reads, holds_renamed}
use Rattle.lv_labels.proofs.Table.{AreIn, IsIn}

-- the structure at a position of the lasso, with these witnesses and the true tables
abbrev pub shown : Parts → Lasso → (ℕ → ℕ) → ℕ → Meaning
shown p l witnesses k = record { size = (l.state k).size; holds = holds_at (position_of p l witnesses k); value = value_with (l.state k) witnesses }

-- no relation of the vocabulary is a label
abbrev pub HasNoLabel : Vocabulary → Type 0
HasNoLabel voc = (n : ℕ) → relation_in voc.relations (Label n) ≡ None

-- a tuple that is in range, at a place of it
pub range_at : (m : Meaning) (ss : List SortId) (es : Env) → in_range m ss es ≡ true → (v : ℕ) → v < length ss → is_element m (sort_at ss v) (get_or es v 0) ≡ true
range_at m [] [] h v lt = absurd (omega arith)
range_at m [] (e ∷ es) h v lt = absurd (false≢true h)
range_at m (s ∷ ss) [] h v lt = absurd (false≢true h)
range_at m (s ∷ ss) (e ∷ es) h zero lt = (and_parts (is_element m s e) (in_range m ss es) h).0
range_at m (s ∷ ss) (e ∷ es) h (suc v) lt = range_at m ss es (and_parts (is_element m s e) (in_range m ss es) h).1 v (omega arith)

range_of : (m : Meaning) (ss : List SortId) (es : Env) → in_range m ss es ≡ true → (vs : List ℕ) → Each (λ v. v < length ss) vs → in_range m (map (sort_at ss) vs) (map (λ v. get_or es v 0) vs) ≡ true
range_of m ss es h [] b = refl
range_of m ss es h (v ∷ vs) b = and_from (is_element m (sort_at ss v) (get_or es v 0)) (in_range m (map (sort_at ss) vs) (map (λ v. get_or es v 0) vs)) (range_at m ss es h v b.0) (range_of m ss es h vs b.1)

vars_values : (m : Meaning) (e : Env) (vs : List ℕ) → values_of m e (map Var vs) ≡ map (λ v. get_or e v 0) vs
vars_values m e [] = refl
vars_values m e (v ∷ vs) = ap (λ xs. get_or e v 0 ∷ xs) (vars_values m e vs)

module _ (voc : Vocabulary) (plain_voc : HasNoLabel voc) (p : Parts) (l : Lasso) (witnesses : ℕ → ℕ) where
  shown_value : (k : ℕ) (e : Env) (t : Term) → value_of (shown p l witnesses k) e t ≡ value_of (with_witnesses (l.state k) witnesses) e t
  shown_value k e (Var v) = refl
  shown_value k e (Const c) = refl

  shown_values : (k : ℕ) (e : Env) (ts : List Term) → values_of (shown p l witnesses k) e ts ≡ values_of (with_witnesses (l.state k) witnesses) e ts
  shown_values k e [] = refl
  shown_values k e (t ∷ ts) = ap₂ (λ x xs. x ∷ xs) (shown_value k e t) (shown_values k e ts)

  label_apart : (c : List SortId) (ts : List Term) (n : ℕ) → are_arguments voc c ts (relation_in voc.relations (Label n)) ≡ true → ⊥
  label_apart c ts n h = false≢true (sym (ap (are_arguments voc c ts) (plain_voc n)) ∙ h)

  -- a relation of the vocabulary has the tuples that it has in the state
  shown_holds : (k : ℕ) (c : List SortId) (ts : List Term) (r : Sym) → are_arguments voc c ts (relation_in voc.relations r) ≡ true → (tuple : List ℕ) → (shown p l witnesses k).holds r tuple ≡ (l.state k).holds r tuple
  shown_holds k c ts (Own x) h tuple = refl
  shown_holds k c ts (Witness x) h tuple = refl
  shown_holds k c ts (Label n) h tuple = absurd (label_apart c ts n h)
  shown_holds k c ts Frozen h tuple = refl
  shown_holds k c ts Saved h tuple = refl
  shown_holds k c ts (Touched s) h tuple = refl
  shown_holds k c ts (Kept s) h tuple = refl
  shown_holds k c ts (Due x) h tuple = refl
  shown_holds k c ts (Copy x) h tuple = refl
  shown_holds k c ts (CopyLabel x) h tuple = refl
  shown_holds k c ts (Next x) h tuple = refl
  shown_holds k c ts (Param x) h tuple = refl

  abbrev values_in : Env → Temporal → List ℕ
  values_in e f = map (λ v. get_or e v 0) (free_variables f)

  -- the atom of a label is true where `always` of its formula holds
  pub label_true : (f : Temporal) (c : List SortId) (k : ℕ) (e : Env) → temporal_fits_in voc c f ≡ true → IsIn (labels_of p) (key_of c f) → in_range (l.state k) c e ≡ true
      → truth_in (shown p l witnesses k) (label_atom (labels_of p) c f) e ≡ at_each_later l k (λ j. holds l witnesses f j e)
  label_true f c k e fits w range =
      fold_at-Atom Bool Env (truth_step (shown p l witnesses k)) (Label n) (map Var (free_variables f)) e
      ∙ (ap (true_table p l witnesses k n) (vars_values (shown p l witnesses k) e (free_variables f))
      ∙ (ap (λ b. b && (in_range (l.state k) (key_at p n).sorts tuple && holds l witnesses (T.Always (key_at p n).inner) k (reverse tuple))) (lt-ltb n (length (labels_of p)) w.0)
      ∙ (ap (λ key. in_range (l.state k) (key.sorts) tuple && holds l witnesses (T.Always (key.inner)) k (reverse tuple)) w.1
      ∙ (ap (λ b. b && holds l witnesses (T.Always (key_of c f).inner) k (reverse tuple)) (range_of (l.state k) c e range (free_variables f) (free_each (λ v. v < length c) f (fits_below voc f c fits)))
      ∙ (holds-Always l witnesses (key_of c f).inner k (reverse tuple)
      ∙ later_same l k (λ j. holds l witnesses (renamed f (renumbered (free_variables f))) j (reverse tuple)) (λ j. holds l witnesses f j e)
      (λ j. holds_renamed l witnesses f (renumbered (free_variables f)) j (reverse tuple) e read))))))
    where
      n : ℕ
      n = number_of (labels_of p) (key_of c f)

      tuple : List ℕ
      tuple = map (λ v. get_or e v 0) (free_variables f)

      read : Reads (renumbered (free_variables f)) (reverse tuple) e (occurrences_of f)
      read = each_weaker (λ v. is_among eqb v (free_variables f) ≡ true) (λ v. get_or (reverse tuple) (renumbered (free_variables f) v) 0 ≡ get_or e v 0)
          (λ v h. renumbered_reads (λ v. get_or e v 0) 0 (free_variables f) v h) (occurrences_of f) (free_has f)

  abbrev Says : Temporal → Type 0
  Says f = (c : List SortId) (k : ℕ) (e : Env) → temporal_fits_in voc c f ≡ true → AreIn (labels_of p) c f → in_range (l.state k) c e ≡ true → truth_in (shown p l witnesses k) (reading (labels_of p) c f) e ≡ holds l witnesses f k e

  all_say : (fs : List Temporal) → Each Says fs → (c : List SortId) (k : ℕ) (e : Env) → all_temporal_fit_in voc c fs ≡ true → Each (IsIn (labels_of p)) (keys_each (map labelled fs) c) → in_range (l.state k) c e ≡ true
      → all_true_in (shown p l witnesses k) (read_each (map (read_with (labels_of p)) fs) c) e ≡ all_hold (map (holds l witnesses) fs) k e
  all_say [] each c k e fits w range = refl
  all_say (f ∷ fs) each c k e fits w range = let both = and_parts (temporal_fits_in voc c f) (all_temporal_fit_in voc c fs) fits in
      ap₂ (λ a b. a && b) (each.0 c k e both.0 (each_first (IsIn (labels_of p)) (keys_of f c) (keys_each (map labelled fs) c) w) range)
      (all_say fs each.1 c k e both.1 (each_second (IsIn (labels_of p)) (keys_of f c) (keys_each (map labelled fs) c) w) range)

  any_says : (fs : List Temporal) → Each Says fs → (c : List SortId) (k : ℕ) (e : Env) → all_temporal_fit_in voc c fs ≡ true → Each (IsIn (labels_of p)) (keys_each (map labelled fs) c) → in_range (l.state k) c e ≡ true
      → any_true_in (shown p l witnesses k) (read_each (map (read_with (labels_of p)) fs) c) e ≡ any_holds (map (holds l witnesses) fs) k e
  any_says [] each c k e fits w range = refl
  any_says (f ∷ fs) each c k e fits w range = let both = and_parts (temporal_fits_in voc c f) (all_temporal_fit_in voc c fs) fits in
      ap₂ (λ a b. a || b) (each.0 c k e both.0 (each_first (IsIn (labels_of p)) (keys_of f c) (keys_each (map labelled fs) c) w) range)
      (any_says fs each.1 c k e both.1 (each_second (IsIn (labels_of p)) (keys_of f c) (keys_each (map labelled fs) c) w) range)

  both_say : {A : Type 0} (join : Bool → Bool → A) (f g : Temporal) → Says f → Says g → (c : List SortId) (k : ℕ) (e : Env) → (temporal_fits_in voc c f && temporal_fits_in voc c g) ≡ true → Each (IsIn (labels_of p)) (keys_of f c ++ keys_of g c) → in_range (l.state k) c e ≡ true
      → join (truth_in (shown p l witnesses k) (reading (labels_of p) c f) e) (truth_in (shown p l witnesses k) (reading (labels_of p) c g) e) ≡ join (holds l witnesses f k e) (holds l witnesses g k e)
  both_say join f g ihf ihg c k e fits w range = let both = and_parts (temporal_fits_in voc c f) (temporal_fits_in voc c g) fits in
      ap₂ join (ihf c k e both.0 (each_first (IsIn (labels_of p)) (keys_of f c) (keys_of g c) w) range) (ihg c k e both.1 (each_second (IsIn (labels_of p)) (keys_of f c) (keys_of g c) w) range)

  under_say : (s : SortId) (f : Temporal) → Says f → (c : List SortId) (k : ℕ) (e : Env) → temporal_fits_in voc (s ∷ c) f ≡ true → AreIn (labels_of p) (s ∷ c) f → in_range (l.state k) c e ≡ true → (x : ℕ) → x < (l.state k).size s
      → truth_in (shown p l witnesses k) (reading (labels_of p) (s ∷ c) f) (x ∷ e) ≡ holds l witnesses f k (x ∷ e)
  under_say s f ih c k e fits w range x lt = ih (s ∷ c) k (x ∷ e) fits w (and_from (is_element (l.state k) s x) (in_range (l.state k) c e) (lt-ltb x ((l.state k).size s) lt) range)

  always_says : (f : Temporal) (c : List SortId) (k : ℕ) (e : Env) → temporal_fits_in voc c f ≡ true → IsIn (labels_of p) (key_of c (plain f)) → in_range (l.state k) c e ≡ true
      → truth_in (shown p l witnesses k) (reading (labels_of p) c (T.Always f)) e ≡ at_each_later l k (λ j. holds l witnesses f j e)
  always_says f c k e fits w range =
      ap (λ g. truth_in (shown p l witnesses k) g e) (read-Always (labels_of p) f c)
      ∙ (ap (λ g. truth_in (shown p l witnesses k) (label_atom (labels_of p) c g) e) (whole_plain (labels_of p) f)
      ∙ (label_true (plain f) c k e (fits_plain voc f c ∙ fits) w range
      ∙ later_same l k (λ j. holds l witnesses (plain f) j e) (λ j. holds l witnesses f j e) (λ j. holds_plain l witnesses f j e)))

  eventually_says : (f : Temporal) (c : List SortId) (k : ℕ) (e : Env) → temporal_fits_in voc c f ≡ true → IsIn (labels_of p) (key_of c (T.Not (plain f))) → in_range (l.state k) c e ≡ true
      → truth_in (shown p l witnesses k) (reading (labels_of p) c (T.Eventually f)) e ≡ not (at_each_later l k (λ j. not (holds l witnesses f j e)))
  eventually_says f c k e fits w range =
      ap (λ g. truth_in (shown p l witnesses k) g e) (read-Eventually (labels_of p) f c)
      ∙ (ap (λ g. truth_in (shown p l witnesses k) (F.Not (label_atom (labels_of p) c (T.Not g))) e) (whole_plain (labels_of p) f)
      ∙ (fold_at-Not Bool Env (truth_step (shown p l witnesses k)) (label_atom (labels_of p) c (T.Not (plain f))) e
      ∙ ap not (label_true (T.Not (plain f)) c k e (simp folds_at (fits_plain voc f c ∙ fits)) w range
      ∙ later_same l k (λ j. holds l witnesses (T.Not (plain f)) j e) (λ j. not (holds l witnesses f j e)) (λ j. simp held (ap not (holds_plain l witnesses f j e))))))

  -- a reading is true with the true tables exactly where the formula holds
  pub reading_true : (f : Temporal) → Says f
  reading_true = by_cases Says record {
    at_true = λ c k e fits w range. simp (reads, held, truths) refl;
    at_false = λ c k e fits w range. simp (reads, held, truths) refl;
    at_atom = λ s ts c k e fits w range. simp (reads, held, truths) (shown_holds k c ts s (simp folds_at at fits) (values_of (shown p l witnesses k) e ts) ∙ ap ((l.state k).holds s) (shown_values k e ts));
    at_same = λ a b c k e fits w range. simp (reads, held, truths) (ap₂ eqb (shown_value k e a) (shown_value k e b));
    at_not = λ f ih c k e fits w range. simp (reads, held, truths) (ap not (ih c k e (simp folds_at at fits) (simp keys at w) range));
    at_and = λ fs each c k e fits w range. simp (reads, held, truths) (all_say fs each c k e (simp folds_at at fits) (simp keys at w) range);
    at_or = λ fs each c k e fits w range. simp (reads, held, truths) (any_says fs each c k e (simp folds_at at fits) (simp keys at w) range);
    at_implies = λ f g ihf ihg c k e fits w range. simp (reads, held, truths) (both_say (λ a b. not a || b) f g ihf ihg c k e (simp folds_at at fits) (simp keys at w) range);
    at_iff = λ f g ihf ihg c k e fits w range. simp (reads, held, truths) (both_say iff f g ihf ihg c k e (simp folds_at at fits) (simp keys at w) range);
    at_all = λ s f ih c k e fits w range. let both = and_parts (ltb s.0 voc.sorts) (temporal_fits_in voc (s ∷ c) f) (simp folds_at at fits) in
        simp (reads, held, truths) (all_below_same ((l.state k).size s) (λ x. truth_in (shown p l witnesses k) (reading (labels_of p) (s ∷ c) f) (x ∷ e)) (λ x. holds l witnesses f k (x ∷ e)) (under_say s f ih c k e both.1 (simp keys at w) range));
    at_any = λ s f ih c k e fits w range. let both = and_parts (ltb s.0 voc.sorts) (temporal_fits_in voc (s ∷ c) f) (simp folds_at at fits) in
        simp (reads, held, truths) (any_below_same ((l.state k).size s) (λ x. truth_in (shown p l witnesses k) (reading (labels_of p) (s ∷ c) f) (x ∷ e)) (λ x. holds l witnesses f k (x ∷ e)) (under_say s f ih c k e both.1 (simp keys at w) range));
    at_always = λ f ih c k e fits w range. let inner : IsIn (labels_of p) (key_of c (plain f)) × AreIn (labels_of p) c f = simp keys at w in
        simp held (always_says f c k e (simp folds_at at fits) inner.0 range);
    at_eventually = λ f ih c k e fits w range. let inner : IsIn (labels_of p) (key_of c (T.Not (plain f))) × AreIn (labels_of p) c f = simp keys at w in
        simp held (eventually_says f c k e (simp folds_at at fits) inner.0 range);
  }
