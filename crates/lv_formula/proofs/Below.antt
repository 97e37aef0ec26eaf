-- Tests of every number and of some number below a bound.
use Rattle.std.proofs.Common.{◌≡◌, ℕ, zero, suc, ◌<◌, Bool, true, false, ◌&&◌, ◌||◌, refl, ap₂, arith, ⊎_elim}
use Rattle.std.proofs.Math.Bool.{and-false, or-true, false-and, true-or}
use Rattle.std.proofs.lemmas.Bool.Decides.{eqb_tells}
use Rattle.lv_formula.specs.Truth.{all_below, any_below}

-- tests of the numbers below n that agree there
pub all_below_same : (n : ℕ) (p q : ℕ → Bool) → ((x : ℕ) → x < n → p x ≡ q x) → all_below n p ≡ all_below n q
all_below_same zero p q h = refl
all_below_same (suc n) p q h = ap₂ (λ a b. a && b) (all_below_same n p q (λ x lt. h x (omega arith))) (h n (omega arith))

pub any_below_same : (n : ℕ) (p q : ℕ → Bool) → ((x : ℕ) → x < n → p x ≡ q x) → any_below n p ≡ any_below n q
any_below_same zero p q h = refl
any_below_same (suc n) p q h = ap₂ (λ a b. a || b) (any_below_same n p q (λ x lt. h x (omega arith))) (h n (omega arith))

pub all_below-fails : (n : ℕ) (p : ℕ → Bool) (i : ℕ) → i < n → p i ≡ false → all_below n p ≡ false
all_below-fails zero p i lt fails = absurd (omega arith)
all_below-fails (suc n) p i lt fails = ⊎_elim
    (λ e. let at : p n ≡ false = rw (← e.1) fails in rw at (and-false (all_below n p)))
    (λ e. let less : i < n = omega (arith, e.1) in rw (all_below-fails n p i less fails) (false-and (p n)))
    (eqb_tells i n)

pub any_below-holds : (n : ℕ) (p : ℕ → Bool) (i : ℕ) → i < n → p i ≡ true → any_below n p ≡ true
any_below-holds zero p i lt holds = absurd (omega arith)
any_below-holds (suc n) p i lt holds = ⊎_elim
    (λ e. let at : p n ≡ true = rw (← e.1) holds in rw at (or-true (any_below n p)))
    (λ e. let less : i < n = omega (arith, e.1) in rw (any_below-holds n p i less holds) (true-or (p n)))
    (eqb_tells i n)
