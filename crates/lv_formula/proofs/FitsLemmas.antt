use Rattle.std.proofs.Common.{◌≡◌, suc, Bool, true, false, ◌&&◌, ltb, List, [], ◌∷◌, length, refl, ap, ap₂}
use Rattle.lv_formula.specs.declared.symbols.SortId.{SortId}
use Rattle.lv_formula.specs.declared.terms.Term.{Term}
use Rattle.lv_formula.specs.declared.vocabulary.Vocabulary.{Vocabulary}
use Rattle.lv_formula.specs.declared.formula.Formula.{Formula}
use Rattle.lv_formula.specs.Fits.{is_sort, sort_of, have_sorts, fits_in, all_fit_in, fits_up_to, all_fit_up_to, none_free}
use Rattle.lv_formula.proofs.Folds.{folds_at}
use Rattle.lv_formula.proofs.Induction.{Cases, Each, by_cases}

and-false : (b : Bool) → (b && false) ≡ false
and-false true = refl
and-false false = refl

pub lengths_differ : (voc : Vocabulary) (context : List SortId) (ts : List Term) (ss : List SortId)
    → (length ts ≡ length ss → ⊥) → have_sorts voc context ts ss ≡ false
lengths_differ voc context [] [] h = absurd (h refl)
lengths_differ voc context [] (s ∷ ss) h = refl
lengths_differ voc context (t ∷ ts) [] h = refl
lengths_differ voc context (t ∷ ts) (s ∷ ss) h =
    rw (lengths_differ voc context ts ss (λ e. h (ap suc e))) (and-false (is_sort (sort_of voc context t) s))

module _ (voc : Vocabulary) where
  abbrev Same : Formula → Type 0
  Same f = (context : List SortId) → fits_up_to none_free voc context f ≡ fits_in voc context f

  all_same : (fs : List Formula) → Each Same fs → (context : List SortId) → all_fit_up_to none_free voc context fs ≡ all_fit_in voc context fs
  all_same [] each context = refl
  all_same (f ∷ fs) each context = ap₂ (λ a b. a && b) (each.0 context) (all_same fs each.1 context)

  cases : Cases Same
  cases = record {
    at_true = λ context. simp folds_at refl;
    at_false = λ context. simp folds_at refl;
    at_atom = λ r ts context. simp folds_at refl;
    at_same = λ a b context. simp folds_at refl;
    at_not = λ f ih context. simp folds_at (ih context);
    at_and = λ fs each context. simp folds_at (all_same fs each context);
    at_or = λ fs each context. simp folds_at (all_same fs each context);
    at_implies = λ f g ihf ihg context. simp folds_at (ap₂ (λ a b. a && b) (ihf context) (ihg context));
    at_iff = λ f g ihf ihg context. simp folds_at (ap₂ (λ a b. a && b) (ihf context) (ihg context));
    at_all = λ s f ih context. simp folds_at (ap (λ b. ltb s.0 voc.sorts && b) (ih (s ∷ context)));
    at_any = λ s f ih context. simp folds_at (ap (λ b. ltb s.0 voc.sorts && b) (ih (s ∷ context)));
  }

  -- where no relation is free, a formula stands there exactly where it fits the vocabulary
  pub fits_where_none_is_free : (f : Formula) (context : List SortId) → fits_up_to none_free voc context f ≡ fits_in voc context f
  fits_where_none_is_free = by_cases Same cases
