-- The least number below a bound that passes a test.
use mathlib.Core.Path.{fun_ext}
use Rattle.std.proofs.Common.{◌≡◌, ℕ, zero, suc, ◌<◌, ◌≤◌, Bool, true, false, refl, sym, ap, ◌∙◌, subst, arith, inl, inr, ◌⊎◌}
use Rattle.std.proofs.lemmas.Bool.{or_cases, or_parts, cases_Bool, cases_eq, cond-true, cond-false, false≢true}
use Rattle.lv_formula.specs.Truth.{any_below}
use Rattle.lv_formula.proofs.Below.{any_below-holds}
use Rattle.lv_places.specs.Least.{least_below}

pub either : {A B C : Type 0} → A ⊎ B → (A → C) → (B → C) → C
either (inl a) f g = f a
either (inr b) f g = g b

pub by_cases : {C : Type 0} (b : Bool) → (b ≡ true → C) → (b ≡ false → C) → C
by_cases b f g = either (cases_Bool b) f g

-- the least number that passes, where some number does
least_step : (n : ℕ) (p : ℕ → Bool) → any_below (suc n) p ≡ true → (any_below n p ≡ true → (least_below n p < n) × (p (least_below n p) ≡ true))
    → (least_below (suc n) p < suc n) × (p (least_below (suc n) p) ≡ true)
least_step n p h ih = by_cases (any_below n p) below here
  where
    below : any_below n p ≡ true → (least_below (suc n) p < suc n) × (p (least_below (suc n) p) ≡ true)
    below e =
        let r = ih e in
        let q : least_below (suc n) p ≡ least_below n p = cond-true (any_below n p) _ _ e in
        subst (λ k. (k < suc n) × (p k ≡ true)) (sym q) (omega (arith, r.0), r.1)

    here : any_below n p ≡ false → (least_below (suc n) p < suc n) × (p (least_below (suc n) p) ≡ true)
    here e =
        let pn : p n ≡ true = either (or_cases (any_below n p) (p n) h) (λ x. absurd (false≢true (sym e ∙ x))) (λ x. x) in
        let q : least_below (suc n) p ≡ n = cond-false (any_below n p) _ _ e ∙ cond-true (p n) _ _ pn in
        subst (λ k. (k < suc n) × (p k ≡ true)) (sym q) (omega arith, pn)

pub least_passes : (n : ℕ) (p : ℕ → Bool) → any_below n p ≡ true → (least_below n p < n) × (p (least_below n p) ≡ true)
least_passes zero p h = absurd (false≢true h)
least_passes (suc n) p h = least_step n p h (λ e. least_passes n p e)

none_least : (k : ℕ) (p : ℕ → Bool) → any_below k p ≡ false → least_below k p ≡ 0
none_least zero p e = refl
none_least (suc k) p e =
    let both = or_parts (any_below k p) (p k) e in
    cond-false (any_below k p) _ _ both.0 ∙ cond-false (p k) k 0 both.1

pub least_in : (n : ℕ) (p : ℕ → Bool) → 0 < n → least_below n p < n
least_in n p pos =
    by_cases (any_below n p) (λ e. (least_passes n p e).0) (λ e. subst (λ j. j < n) (sym (none_least n p e)) pos)

-- no number below the least one passes
pub least_least : (n : ℕ) (p : ℕ → Bool) (i : ℕ) → i < n → p i ≡ true → least_below n p ≤ i
least_least zero p i l h = absurd (omega arith)
least_least (suc n) p i l h =
    by_cases (any_below n p)
    (λ e. let q : least_below (suc n) p ≡ least_below n p = cond-true (any_below n p) _ _ e in
    either (cases_eq i n) (λ ei. let b = least_passes n p e in omega (arith, q, b.0)) (λ ne. let r = least_least n p i (omega arith) h in omega (arith, q, r)))
    (λ e. let ei : i ≡ n = either (cases_eq i n) (λ x. x) (λ ne. absurd (false≢true (sym e ∙ any_below-holds n p i (omega arith) h))) in
    let q : least_below (suc n) p ≡ n = cond-false (any_below n p) _ _ e ∙ cond-true (p n) n 0 (subst (λ k. p k ≡ true) ei h) in
    omega (arith, q, ei))

-- tests that agree
pub least_same : (n : ℕ) (p q : ℕ → Bool) → ((i : ℕ) → p i ≡ q i) → least_below n p ≡ least_below n q
least_same n p q h = ap (least_below n) (fun_ext h)
