-- What fits the vocabulary of invariants with the words of labels fits it also where only the terms of those words are looked at.
use Rattle.std.proofs.Common.{◌≡◌, ℕ, suc, ◌≤◌, Bool, true, false, ◌&&◌, cond, ltb, List, [], ◌∷◌, ◌++◌, length, Option, Some, None, refl, sym, ap, ap₂, ◌∙◌, arith}
use Rattle.std.proofs.lemmas.Bool.{and_parts, and_from, le-leb}
use Rattle.lv_formula.specs.declared.symbols.SortId.{SortId}
use Rattle.lv_formula.specs.declared.symbols.Sym.{Sym}
use Rattle.lv_formula.specs.declared.symbols.Sym.TheVariants as Y
use Rattle.lv_formula.specs.declared.terms.Term.{Term}
use Rattle.lv_formula.specs.declared.terms.Term.TheVariants.{Var, Const}
use Rattle.lv_formula.specs.declared.formula.Formula.{Formula}
use Rattle.lv_formula.specs.declared.vocabulary.RelShape.{RelShape}
use Rattle.lv_formula.specs.declared.vocabulary.Vocabulary.{Vocabulary}
use Rattle.lv_formula.specs.Symbols.{sym_eq}
use Rattle.lv_formula.specs.Vocabulary.{relation_in}
use Rattle.lv_formula.specs.Fits.{sort_of, is_sort, agree, have_sorts, are_arguments, are_scoped, has_sort, fits_in, fits_step, all_fit_in, fits_up_to, all_fit_up_to}
use Rattle.lv_formula.proofs.Folds as Folds
use Rattle.lv_formula.proofs.Induction.{Cases, Each, by_cases}
use Rattle.lv_formula.proofs.SymbolLaws.{sym_eq-true}
use Rattle.lv_system.specs.declared.parts.Parts.{Parts}
use Rattle.lv_system.specs.InvariantWords.{invariant_vocabulary, invariant_relations, is_label_word}
use Rattle.lv_labels.specs.declared.key.Key.{Key}
use Rattle.lv_labels.specs.Labels.{labels_of}
use Rattle.lv_grammar.specs.LabelLimits.{label_shapes, label_relations, spoken_vocabulary}

-- relations that aren't named so change nothing behind others
beyond : (xs ys : List RelShape) (s : Sym) → relation_in ys s ≡ None → relation_in (xs ++ ys) s ≡ relation_in xs s
beyond [] ys s e = e
beyond (x ∷ xs) ys s e = ap (cond (sym_eq x.sym s) (Some x.sorts)) (beyond xs ys s e)

module _ (p : Parts) where
  abbrev spoken : Vocabulary
  spoken = spoken_vocabulary p

  abbrev plain : Vocabulary
  plain = invariant_vocabulary p

  not_named : (a b : Sym) → is_label_word p a ≡ true → is_label_word p b ≡ false → sym_eq a b ≡ false
  not_named a b x y = go (sym_eq a b) refl where
    go : (c : Bool) → sym_eq a b ≡ c → c ≡ false
    go false e = refl
    go true e = let z : true ≡ false = sym x ∙ ap (is_label_word p) (sym_eq-true a b e) ∙ y in absurd cc

  none_labelled : (name : ℕ → Sym) (from : ℕ) → ((n : ℕ) → from ≤ n → is_label_word p (name n) ≡ true) → (s : Sym) → is_label_word p s ≡ false → (n : ℕ) → from ≤ n → (ks : List Key)
      → relation_in (label_shapes name n ks) s ≡ None
  none_labelled name from are s other n le [] = refl
  none_labelled name from are s other n le (k ∷ ks) = rw (not_named (name n) s (are n le) other) (none_labelled name from are s other (suc n) (omega (arith, le)) ks)

  -- the words of labels name no other relation
  no_label : (s : Sym) → is_label_word p s ≡ false → relation_in (label_relations p) s ≡ None
  no_label s other =
      let a = none_labelled Y.Label 0 (λ n le. refl) s other 0 (omega arith) (labels_of p) in
      let b = none_labelled Y.Due (length p.fairs) (λ n le. le-leb (length p.fairs) n le) s other (length p.fairs) (omega arith) (labels_of p) in
      let c = none_labelled Y.CopyLabel 0 (λ n le. refl) s other 0 (omega arith) (labels_of p) in
      let bc = beyond (label_shapes Y.Due (length p.fairs) (labels_of p)) (label_shapes Y.CopyLabel 0 (labels_of p)) s c ∙ b in
      beyond (label_shapes Y.Label 0 (labels_of p)) _ s bc ∙ a

  same_relation : (s : Sym) → is_label_word p s ≡ false → relation_in spoken.relations s ≡ relation_in plain.relations s
  same_relation s other = beyond (invariant_relations p) (label_relations p) s (no_label s other)

  same_sort : (context : List SortId) (t : Term) → sort_of spoken context t ≡ sort_of plain context t
  same_sort context (Var i) = refl
  same_sort context (Const s) = refl

  same_sorts : (context : List SortId) (ts : List Term) (ss : List SortId) → have_sorts spoken context ts ss ≡ have_sorts plain context ts ss
  same_sorts context [] [] = refl
  same_sorts context [] (s ∷ ss) = refl
  same_sorts context (t ∷ ts) [] = refl
  same_sorts context (t ∷ ts) (s ∷ ss) = ap₂ (λ a b. is_sort a s && b) (same_sort context t) (same_sorts context ts ss)

  same_arguments : (context : List SortId) (ts : List Term) (o : Option (List SortId)) → are_arguments spoken context ts o ≡ are_arguments plain context ts o
  same_arguments context ts None = refl
  same_arguments context ts (Some ss) = same_sorts context ts ss

  sort_there : (o : Option SortId) (s : SortId) → is_sort o s ≡ true → has_sort o ≡ true
  sort_there None s e = absurd cc
  sort_there (Some a) s e = refl

  scoped : (context : List SortId) (ts : List Term) (ss : List SortId) → have_sorts plain context ts ss ≡ true → are_scoped plain context ts ≡ true
  scoped context [] [] e = refl
  scoped context [] (s ∷ ss) e = absurd cc
  scoped context (t ∷ ts) [] e = absurd cc
  scoped context (t ∷ ts) (s ∷ ss) e =
      let q = and_parts (is_sort (sort_of plain context t) s) (have_sorts plain context ts ss) e in
      and_from (has_sort (sort_of plain context t)) _ (sort_there (sort_of plain context t) s q.0) (scoped context ts ss q.1)

  scoped_arguments : (context : List SortId) (ts : List Term) (o : Option (List SortId)) → are_arguments plain context ts o ≡ true → are_scoped plain context ts ≡ true
  scoped_arguments context ts None e = absurd cc
  scoped_arguments context ts (Some ss) e = scoped context ts ss e

  abbrev Loose : Formula → Type 0
  Loose f = (context : List SortId) → fits_in spoken context f ≡ true → fits_up_to (is_label_word p) plain context f ≡ true

  all_loose : (fs : List Formula) → Each Loose fs → (context : List SortId) → all_fit_in spoken context fs ≡ true → all_fit_up_to (is_label_word p) plain context fs ≡ true
  all_loose [] each context e = refl
  all_loose (f ∷ fs) each context e =
      let q = and_parts (fits_in spoken context f) (all_fit_in spoken context fs) e in
      and_from (fits_up_to (is_label_word p) plain context f) _ (each.0 context q.0) (all_loose fs each.1 context q.1)

  atom_loose : (s : Sym) (ts : List Term) (context : List SortId) → are_arguments spoken context ts (relation_in spoken.relations s) ≡ true
      → cond (is_label_word p s) (are_scoped plain context ts) (are_arguments plain context ts (relation_in plain.relations s)) ≡ true
  atom_loose s ts context e = go (is_label_word p s) refl where
    go : (b : Bool) → is_label_word p s ≡ b → cond b (are_scoped plain context ts) (are_arguments plain context ts (relation_in plain.relations s)) ≡ true
    go true h = scoped_arguments context ts (relation_in spoken.relations s) (sym (same_arguments context ts (relation_in spoken.relations s)) ∙ e)
    go false h = ap (are_arguments plain context ts) (sym (same_relation s h)) ∙ sym (same_arguments context ts (relation_in spoken.relations s)) ∙ e

  two_loose : (f g : Formula) → Loose f → Loose g → (context : List SortId) → (fits_in spoken context f && fits_in spoken context g) ≡ true
      → (fits_up_to (is_label_word p) plain context f && fits_up_to (is_label_word p) plain context g) ≡ true
  two_loose f g x y context e =
      let q = and_parts (fits_in spoken context f) (fits_in spoken context g) e in
      and_from (fits_up_to (is_label_word p) plain context f) _ (x context q.0) (y context q.1)

  bound_loose : (s : SortId) (f : Formula) → Loose f → (context : List SortId) → (ltb s.0 (length p.sorts) && fits_in spoken (s ∷ context) f) ≡ true
      → (ltb s.0 (length p.sorts) && fits_up_to (is_label_word p) plain (s ∷ context) f) ≡ true
  bound_loose s f x context e =
      let q = and_parts (ltb s.0 (length p.sorts)) (fits_in spoken (s ∷ context) f) e in
      and_from (ltb s.0 (length p.sorts)) _ q.0 (x (s ∷ context) q.1)

  loose_cases : Cases Loose
  loose_cases = record {
    at_true = λ context e. simp Folds.folds_at refl;
    at_false = λ context e. simp Folds.folds_at refl;
    at_atom = λ s ts context e. let q = sym (Folds.fold_at-Atom Bool (List SortId) (fits_step spoken) s ts context) ∙ e in simp Folds.folds_at (atom_loose s ts context q);
    at_same = λ a b context e.
        let q = sym (Folds.fold_at-Same Bool (List SortId) (fits_step spoken) a b context) ∙ e in
        simp Folds.folds_at (sym (ap₂ agree (same_sort context a) (same_sort context b)) ∙ q);
    at_not = λ f ih context e. let q = sym (Folds.fold_at-Not Bool (List SortId) (fits_step spoken) f context) ∙ e in simp Folds.folds_at (ih context q);
    at_and = λ fs each context e. let q = sym (Folds.fold_at-And Bool (List SortId) (fits_step spoken) fs context) ∙ e in simp Folds.folds_at (all_loose fs each context q);
    at_or = λ fs each context e. let q = sym (Folds.fold_at-Or Bool (List SortId) (fits_step spoken) fs context) ∙ e in simp Folds.folds_at (all_loose fs each context q);
    at_implies = λ f g x y context e. let q = sym (Folds.fold_at-Implies Bool (List SortId) (fits_step spoken) f g context) ∙ e in simp Folds.folds_at (two_loose f g x y context q);
    at_iff = λ f g x y context e. let q = sym (Folds.fold_at-Iff Bool (List SortId) (fits_step spoken) f g context) ∙ e in simp Folds.folds_at (two_loose f g x y context q);
    at_all = λ s f ih context e. let q = sym (Folds.fold_at-All Bool (List SortId) (fits_step spoken) s f context) ∙ e in simp Folds.folds_at (bound_loose s f ih context q);
    at_any = λ s f ih context e. let q = sym (Folds.fold_at-Any Bool (List SortId) (fits_step spoken) s f context) ∙ e in simp Folds.folds_at (bound_loose s f ih context q);
  }

  pub loose : (f : Formula) (context : List SortId) → fits_in (spoken_vocabulary p) context f ≡ true → fits_up_to (is_label_word p) (invariant_vocabulary p) context f ≡ true
  loose = by_cases Loose loose_cases
