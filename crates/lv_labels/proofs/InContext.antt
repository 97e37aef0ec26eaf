-- The variables of a formula that fits are in its context.
use Rattle.std.proofs.Common.{◌≡◌, ℕ, zero, suc, ◌<◌, true, ◌&&◌, ltb, List, [], ◌∷◌, ◌++◌, map, length, Option, Some, None, refl, arith}
use Rattle.std.proofs.lemmas.Bool.{and_parts, false≢true}
use Rattle.std.proofs.lemmas.Option.{slice_get_within}
use Rattle.lv_formula.specs.declared.symbols.SortId.{SortId}
use Rattle.lv_formula.specs.declared.terms.Term.{Term}
use Rattle.lv_formula.specs.declared.terms.Term.TheVariants.{Var, Const}
use Rattle.lv_formula.specs.declared.vocabulary.Vocabulary.{Vocabulary}
use Rattle.lv_formula.specs.declared.temporal.Temporal.{Temporal}
use Rattle.lv_formula.specs.Vocabulary.{relation_in}
use Rattle.lv_formula.specs.Fits.{sort_of, is_sort, agree, have_sorts, are_arguments}
use Rattle.lv_formula.specs.TemporalFits.{temporal_fits_in, all_temporal_fit_in}
use Rattle.lv_formula.proofs.Induction.{Each}
use Rattle.lv_formula.proofs.TemporalFolds.{folds, folds_at}
use Rattle.lv_formula.proofs.TemporalInduction.{by_cases}
use Rattle.lv_labels.specs.Renaming.{term_variables, terms_variables, joined, outside, occurrences_of}
use Rattle.lv_labels.proofs.Once.{each_both}

-- a sort that passes the test is there
pub is_sort_some : (o : Option SortId) (s : SortId) → is_sort o s ≡ true → (t : SortId) × (o ≡ Some t)
is_sort_some None s h = absurd (false≢true h)
is_sort_some (Some t) s h = (t, refl)

-- two sorts that agree are there
pub agree_some : (o p : Option SortId) → agree o p ≡ true → ((s : SortId) × (o ≡ Some s)) × ((t : SortId) × (p ≡ Some t))
agree_some o None h = absurd (false≢true h)
agree_some o (Some t) h = (is_sort_some o t h, (t, refl))

module _ (voc : Vocabulary) where
  -- each of these variables is in the context
  abbrev pub Below : List SortId → List ℕ → Type 0
  Below context vs = Each (λ v. v < length context) vs

  below_outside : (context : List SortId) (s : SortId) (vs : List ℕ) → Below (s ∷ context) vs → Below context (outside vs)
  below_outside c s [] h = tt
  below_outside c s (zero ∷ vs) h = below_outside c s vs h.1
  below_outside c s (suc v ∷ vs) h = (omega (arith, h.0), below_outside c s vs h.1)

  -- a term with a sort
  term_below : (context : List SortId) (t : Term) (s : SortId) → sort_of voc context t ≡ Some s → Below context (term_variables t)
  term_below c (Var v) s h = (slice_get_within c v s h, tt)
  term_below c (Const k) s h = tt

  terms_below : (context : List SortId) (ts : List Term) (ss : List SortId) → have_sorts voc context ts ss ≡ true → Below context (terms_variables ts)
  terms_below c [] ss h = tt
  terms_below c (t ∷ ts) [] h = absurd (false≢true h)
  terms_below c (t ∷ ts) (s ∷ ss) h =
      let both = and_parts (is_sort (sort_of voc c t) s) (have_sorts voc c ts ss) h in
      let found = is_sort_some (sort_of voc c t) s both.0 in
      each_both (λ v. v < length c) (term_variables t) (terms_variables ts) (term_below c t found.0 found.1) (terms_below c ts ss both.1)

  arguments_below : (context : List SortId) (ts : List Term) (o : Option (List SortId)) → are_arguments voc context ts o ≡ true → Below context (terms_variables ts)
  arguments_below c ts None h = absurd (false≢true h)
  arguments_below c ts (Some ss) h = terms_below c ts ss h

  abbrev IsBelow : Temporal → Type 0
  IsBelow f = (context : List SortId) → temporal_fits_in voc context f ≡ true → Below context (occurrences_of f)

  all_below_in : (fs : List Temporal) → Each IsBelow fs → (context : List SortId) → all_temporal_fit_in voc context fs ≡ true → Below context (joined (map occurrences_of fs))
  all_below_in [] each c h = tt
  all_below_in (f ∷ fs) each c h = let both = and_parts (temporal_fits_in voc c f) (all_temporal_fit_in voc c fs) h in
      each_both (λ v. v < length c) (occurrences_of f) (joined (map occurrences_of fs)) (each.0 c both.0) (all_below_in fs each.1 c both.1)

  both_below : (f g : Temporal) → IsBelow f → IsBelow g → (context : List SortId) → (temporal_fits_in voc context f && temporal_fits_in voc context g) ≡ true → Below context (occurrences_of f ++ occurrences_of g)
  both_below f g ihf ihg c h = let both = and_parts (temporal_fits_in voc c f) (temporal_fits_in voc c g) h in
      each_both (λ v. v < length c) (occurrences_of f) (occurrences_of g) (ihf c both.0) (ihg c both.1)

  -- each variable of a formula that fits is in the context
  pub fits_below : (f : Temporal) → IsBelow f
  fits_below = by_cases IsBelow record {
    at_true = λ c h. simp folds tt;
    at_false = λ c h. simp folds tt;
    at_atom = λ s ts c h. simp folds (arguments_below c ts (relation_in voc.relations s) (simp folds_at at h));
    at_same = λ a b c h. let k = agree_some (sort_of voc c a) (sort_of voc c b) (simp folds_at at h) in
        simp folds (each_both (λ v. v < length c) (term_variables a) (term_variables b) (term_below c a k.0.0 k.0.1) (term_below c b k.1.0 k.1.1));
    at_not = λ f ih c h. simp folds (ih c (simp folds_at at h));
    at_and = λ fs each c h. simp folds (all_below_in fs each c (simp folds_at at h));
    at_or = λ fs each c h. simp folds (all_below_in fs each c (simp folds_at at h));
    at_implies = λ f g ihf ihg c h. simp folds (both_below f g ihf ihg c (simp folds_at at h));
    at_iff = λ f g ihf ihg c h. simp folds (both_below f g ihf ihg c (simp folds_at at h));
    at_all = λ s f ih c h. let both = and_parts (ltb s.0 voc.sorts) (temporal_fits_in voc (s ∷ c) f) (simp folds_at at h) in
        simp folds (below_outside c s (occurrences_of f) (ih (s ∷ c) both.1));
    at_any = λ s f ih c h. let both = and_parts (ltb s.0 voc.sorts) (temporal_fits_in voc (s ∷ c) f) (simp folds_at at h) in
        simp folds (below_outside c s (occurrences_of f) (ih (s ∷ c) both.1));
    at_always = λ f ih c h. simp folds (ih c (simp folds_at at h));
    at_eventually = λ f ih c h. simp folds (ih c (simp folds_at at h));
  }
