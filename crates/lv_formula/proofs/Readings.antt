-- The textbook's readings of the quantifiers.
use Rattle.std.proofs.Common.{◌≡◌, ℕ, zero, suc, ◌<◌, Bool, true, false, ◌||◌, ◌∷◌, refl, arith, ⊎_elim, ◌⊎◌, inl, inr, ◌↔◌}
use Rattle.std.proofs.lemmas.Bool.{and_parts}
use Rattle.std.proofs.lemmas.Bool.Decides.{eqb_tells}
use Rattle.lv_formula.specs.declared.symbols.SortId.{SortId}
use Rattle.lv_formula.specs.declared.formula.Formula.{Formula}
use Rattle.lv_formula.specs.declared.formula.Formula.TheVariants.{All, Any}
use Rattle.lv_formula.proofs.Folds.{folds_at}
use Rattle.lv_formula.specs.Meaning.{Meaning}
use Rattle.lv_formula.specs.Truth.{Env, truth_in, all_below, any_below}
use Rattle.lv_formula.proofs.Below.{any_below-holds}

pub all_below-each : (n : ℕ) (p : ℕ → Bool) → all_below n p ≡ true → (i : ℕ) → i < n → p i ≡ true
all_below-each zero p h i lt = absurd (omega arith)
all_below-each (suc n) p h i lt = let both = and_parts (all_below n p) (p n) h in ⊎_elim
    (λ e. rw e.1 both.1)
    (λ e. let less : i < n = omega (arith, e.1) in all_below-each n p both.0 i less)
    (eqb_tells i n)

pub all_below-from : (n : ℕ) (p : ℕ → Bool) → ((i : ℕ) → i < n → p i ≡ true) → all_below n p ≡ true
all_below-from zero p h = refl
all_below-from (suc n) p h =
    let rest : all_below n p ≡ true = all_below-from n p (λ i lt. h i (omega arith)) in
    let last : p n ≡ true = h n (omega arith) in
    rw (rest, last) refl

either : (a b : Bool) → (a || b) ≡ true → (a ≡ true) ⊎ (b ≡ true)
either true b h = inl refl
either false b h = inr h

pub any_below-some : (n : ℕ) (p : ℕ → Bool) → any_below n p ≡ true → (i : ℕ) × (i < n) × (p i ≡ true)
any_below-some zero p h = cc
any_below-some (suc n) p h = ⊎_elim
    (λ e. let below = any_below-some n p e in (below.0, omega arith, below.2))
    (λ e. (n, omega arith, e))
    (either (any_below n p) (p n) h)

-- for all elements of the sort
pub true-All : (m : Meaning) (s : SortId) (f : Formula) (env : Env) → (truth_in m (All s f) env ≡ true) ↔ ((x : ℕ) → x < m.size s → truth_in m f (x ∷ env) ≡ true)
true-All m s f env = (
  (λ h. all_below-each (m.size s) (λ x. truth_in m f (x ∷ env)) (simp folds_at at h)),
  (λ h. simp folds_at (all_below-from (m.size s) (λ x. truth_in m f (x ∷ env)) h)),
)

-- for some element of the sort
pub true-Any : (m : Meaning) (s : SortId) (f : Formula) (env : Env) → (truth_in m (Any s f) env ≡ true) ↔ ((x : ℕ) × (x < m.size s) × (truth_in m f (x ∷ env) ≡ true))
true-Any m s f env = (
  (λ h. any_below-some (m.size s) (λ x. truth_in m f (x ∷ env)) (simp folds_at at h)),
  (λ h. simp folds_at (any_below-holds (m.size s) (λ x. truth_in m f (x ∷ env)) h.0 h.1 h.2)),
)
