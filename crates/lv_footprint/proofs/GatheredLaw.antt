-- The truth of formulas that are gathered item by item.
use Rattle.std.proofs.Common.{◌≡◌, ℕ, zero, suc, ◌+◌, Bool, true, false, ◌&&◌, ◌||◌, eqb, List, [], ◌∷◌, ◌++◌, length, get_or, refl, sym, ap, ap₂, ◌∙◌, arith, ⊎_elim}
use Rattle.std.proofs.Math.Bool.{or-false}
use Rattle.std.proofs.lemmas.Bool.{cases_Bool, eq-eqb, eqb-true, false≢true, ne_eqb}
use Rattle.lv_formula.specs.declared.terms.Term.{Term}
use Rattle.lv_formula.specs.declared.formula.Formula.{Formula}
use Rattle.lv_formula.proofs.Folds.{fold_at-Same}
use Rattle.lv_formula.specs.Meaning.{Meaning}
use Rattle.lv_formula.specs.Truth.{any_below, any_true_in, truth_in, truth_step, value_of}
use Rattle.lv_formula.proofs.Below.{any_below_same}
use Rattle.lv_footprint.specs.Footprint.{same_if}
use Rattle.lv_footprint.specs.Gathered.{gathered}

or-assoc : (a b c : Bool) → (a || (b || c)) ≡ ((a || b) || c)
or-assoc true b c = refl
or-assoc false b c = refl

pub any_true-append : (m : Meaning) (fs gs : List Formula) (env : List ℕ) → any_true_in m (fs ++ gs) env ≡ (any_true_in m fs env || any_true_in m gs env)
any_true-append m [] gs env = refl
any_true-append m (f ∷ fs) gs env = ap (λ b. truth_in m f env || b) (any_true-append m fs gs env) ∙ or-assoc (truth_in m f env) (any_true_in m fs env) (any_true_in m gs env)

any_below-first : (n : ℕ) (p : ℕ → Bool) → any_below (suc n) p ≡ (p 0 || any_below n (λ i. p (suc i)))
any_below-first zero p = sym (or-false (p 0))
any_below-first (suc n) p = ap (λ b. b || p (suc n)) (any_below-first n p) ∙ sym (or-assoc (p 0) (any_below n (λ i. p (suc i))) (p (suc n)))

module _ {X : Type 0} (d : X) (f : ℕ → X → List Formula) (m : Meaning) (env : List ℕ) where
  any_from : (n : ℕ) (xs : List X) → any_true_in m (gathered f n xs) env ≡ any_below (length xs) (λ i. any_true_in m (f (n + i) (get_or xs i d)) env)
  any_from n [] = refl
  any_from n (x ∷ xs) = any_true-append m (f n x) (gathered f (suc n) xs) env
      ∙ ap₂ (λ a b. a || b)
      (let here : n ≡ n + 0 = omega arith in ap (λ k. any_true_in m (f k x) env) here)
      (any_from (suc n) xs ∙ any_below_same (length xs) _ _ (λ i l. let there : suc n + i ≡ n + suc i = omega arith in ap (λ k. any_true_in m (f k (get_or xs i d)) env) there))
      ∙ sym (any_below-first (length xs) (λ i. any_true_in m (f (n + i) (get_or (x ∷ xs) i d)) env))

  -- some of the formulas is true exactly where some item's is
  pub any_gathered : (xs : List X) → any_true_in m (gathered f 0 xs) env ≡ any_below (length xs) (λ i. any_true_in m (f i (get_or xs i d)) env)
  any_gathered xs = any_from 0 xs ∙ any_below_same (length xs) _ _ (λ i l. let z : 0 + i ≡ i = omega arith in ap (λ k. any_true_in m (f k (get_or xs i d)) env) z)

eqb_swap : (a b : ℕ) → eqb a b ≡ eqb b a
eqb_swap a b = ⊎_elim
    (λ e. e ∙ sym (eq-eqb b a (sym (eqb-true a b e))))
    (λ e. e ∙ sym (ne_eqb b a (λ h. false≢true (sym e ∙ eq-eqb a b (sym h)))))
    (cases_Bool (eqb a b))

pub same_if-true : (m : Meaning) (env : List ℕ) (b : Bool) (t u : Term) → any_true_in m (same_if b t u) env ≡ (b && eqb (value_of m env u) (value_of m env t))
same_if-true m env true t u = or-false _ ∙ fold_at-Same Bool (List ℕ) (truth_step m) t u env ∙ eqb_swap (value_of m env t) (value_of m env u)
same_if-true m env false t u = refl
