-- Free variables and renaming: what holds of a renamed formula, and which variables occur in it.
use Rattle.std.proofs.Common.{◌≡◌, ℕ, zero, suc, not, ◌&&◌, ◌||◌, eqb, List, [], ◌∷◌, ◌++◌, map, get_or, refl, ap, ap₂}
use Rattle.lv_formula.specs.declared.terms.Term.{Term}
use Rattle.lv_formula.specs.declared.terms.Term.TheVariants.{Var, Const}
use Rattle.lv_formula.specs.declared.temporal.Temporal.{Temporal}
use Rattle.lv_formula.proofs.Induction.{Each}
use Rattle.lv_formula.proofs.TemporalFolds.{folds, folds_at}
use Rattle.lv_formula.proofs.TemporalInduction.{Cases, by_cases}
use Rattle.lv_formula.specs.Meaning.{Meaning}
use Rattle.lv_formula.specs.Truth.{Env, value_of, values_of, iff}
use Rattle.lv_system.specs.TemporalTruth.{Lasso, holds, with_witnesses, all_hold, any_holds}
use Rattle.lv_labels.specs.Renaming.{term_variables, terms_variables, joined, outside, occurrences_of, under, renamed_term, renamed, rename_each}
use Rattle.lv_labels.proofs.Once.{each_first, each_second}
use Rattle.lv_labels.proofs.HoldsAt.{held}
use Rattle.lv_formula.proofs.Below.{all_below_same, any_below_same}
use Rattle.lv_labels.proofs.Later.{later_same}

-- the first environment has for the new name of each of these variables what the second has for the old
abbrev pub Reads : (ℕ → ℕ) → Env → Env → List ℕ → Type 0
Reads to e d vs = Each (λ v. get_or e (to v) 0 ≡ get_or d v 0) vs

reads_under : (to : ℕ → ℕ) (e d : Env) (x : ℕ) (vs : List ℕ) → Reads to e d (outside vs) → Reads (under to) (x ∷ e) (x ∷ d) vs
reads_under to e d x [] h = tt
reads_under to e d x (zero ∷ vs) h = (refl, reads_under to e d x vs h)
reads_under to e d x (suc v ∷ vs) h = (h.0, reads_under to e d x vs h.1)

module _ (l : Lasso) (witnesses : ℕ → ℕ) where
  value_renamed : (m : Meaning) (to : ℕ → ℕ) (e d : Env) (t : Term) → Reads to e d (term_variables t) → value_of m e (renamed_term to t) ≡ value_of m d t
  value_renamed m to e d (Var v) h = h.0
  value_renamed m to e d (Const c) h = refl

  values_renamed : (m : Meaning) (to : ℕ → ℕ) (e d : Env) (ts : List Term) → Reads to e d (terms_variables ts) → values_of m e (map (renamed_term to) ts) ≡ values_of m d ts
  values_renamed m to e d [] h = refl
  values_renamed m to e d (t ∷ ts) h = ap₂ (λ x xs. x ∷ xs) (value_renamed m to e d t (each_first _ (term_variables t) (terms_variables ts) h)) (values_renamed m to e d ts (each_second _ (term_variables t) (terms_variables ts) h))

  abbrev Same : Temporal → Type 0
  Same f = (to : ℕ → ℕ) (i : ℕ) (e d : Env) → Reads to e d (occurrences_of f) → holds l witnesses (renamed f to) i e ≡ holds l witnesses f i d

  all_renamed : (fs : List Temporal) → Each Same fs → (to : ℕ → ℕ) (i : ℕ) (e d : Env) → Reads to e d (joined (map occurrences_of fs)) → all_hold (map (holds l witnesses) (rename_each (map renamed fs) to)) i e ≡ all_hold (map (holds l witnesses) fs) i d
  all_renamed [] each to i e d h = refl
  all_renamed (f ∷ fs) each to i e d h = ap₂ (λ x y. x && y) (each.0 to i e d (each_first _ (occurrences_of f) (joined (map occurrences_of fs)) h)) (all_renamed fs each.1 to i e d (each_second _ (occurrences_of f) (joined (map occurrences_of fs)) h))

  any_renamed : (fs : List Temporal) → Each Same fs → (to : ℕ → ℕ) (i : ℕ) (e d : Env) → Reads to e d (joined (map occurrences_of fs)) → any_holds (map (holds l witnesses) (rename_each (map renamed fs) to)) i e ≡ any_holds (map (holds l witnesses) fs) i d
  any_renamed [] each to i e d h = refl
  any_renamed (f ∷ fs) each to i e d h = ap₂ (λ x y. x || y) (each.0 to i e d (each_first _ (occurrences_of f) (joined (map occurrences_of fs)) h)) (any_renamed fs each.1 to i e d (each_second _ (occurrences_of f) (joined (map occurrences_of fs)) h))

  cases : Cases Same
  cases = record {
    at_true = λ to i e d h. simp (folds_at, held) refl;
    at_false = λ to i e d h. simp (folds_at, held) refl;
    at_atom = λ s ts to i e d h. simp (folds_at, held) (ap ((l.state i).holds s) (values_renamed (with_witnesses (l.state i) witnesses) to e d ts (simp folds at h)));
    at_same = λ a b to i e d h. let k : Reads to e d (term_variables a ++ term_variables b) = simp folds at h in
        simp (folds_at, held) (ap₂ eqb (value_renamed (with_witnesses (l.state i) witnesses) to e d a (each_first _ (term_variables a) (term_variables b) k)) (value_renamed (with_witnesses (l.state i) witnesses) to e d b (each_second _ (term_variables a) (term_variables b) k)));
    at_not = λ f ih to i e d h. simp (folds_at, held) (ap not (ih to i e d (simp folds at h)));
    at_and = λ fs each to i e d h. simp (folds_at, held) (all_renamed fs each to i e d (simp folds at h));
    at_or = λ fs each to i e d h. simp (folds_at, held) (any_renamed fs each to i e d (simp folds at h));
    at_implies = λ f g ihf ihg to i e d h. let k : Reads to e d (occurrences_of f ++ occurrences_of g) = simp folds at h in
        simp (folds_at, held) (ap₂ (λ x y. not x || y) (ihf to i e d (each_first _ (occurrences_of f) (occurrences_of g) k)) (ihg to i e d (each_second _ (occurrences_of f) (occurrences_of g) k)));
    at_iff = λ f g ihf ihg to i e d h. let k : Reads to e d (occurrences_of f ++ occurrences_of g) = simp folds at h in
        simp (folds_at, held) (ap₂ iff (ihf to i e d (each_first _ (occurrences_of f) (occurrences_of g) k)) (ihg to i e d (each_second _ (occurrences_of f) (occurrences_of g) k)));
    at_all = λ s f ih to i e d h. simp (folds_at, held) (all_below_same ((l.state i).size s) (λ x. holds l witnesses (renamed f (under to)) i (x ∷ e)) (λ x. holds l witnesses f i (x ∷ d)) (λ x lt. ih (under to) i (x ∷ e) (x ∷ d) (reads_under to e d x (occurrences_of f) (simp folds at h))));
    at_any = λ s f ih to i e d h. simp (folds_at, held) (any_below_same ((l.state i).size s) (λ x. holds l witnesses (renamed f (under to)) i (x ∷ e)) (λ x. holds l witnesses f i (x ∷ d)) (λ x lt. ih (under to) i (x ∷ e) (x ∷ d) (reads_under to e d x (occurrences_of f) (simp folds at h))));
    at_always = λ f ih to i e d h. simp (folds_at, held) (later_same l i (λ j. holds l witnesses (renamed f to) j e) (λ j. holds l witnesses f j d) (λ j. ih to j e d (simp folds at h)));
    at_eventually = λ f ih to i e d h. simp (folds_at, held) (ap not (later_same l i (λ j. not (holds l witnesses (renamed f to) j e)) (λ j. not (holds l witnesses f j d)) (λ j. ap not (ih to j e d (simp folds at h)))));
  }

  -- a renamed formula holds where the formula does, if the environments agree on what occurs in it
  pub holds_renamed : (f : Temporal) → Same f
  holds_renamed = by_cases Same cases
