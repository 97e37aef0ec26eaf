-- The least number that passes a test.
use Rattle.std.specs.Prelude.{ℕ, zero, suc, Bool, cond}
use Rattle.lv_formula.specs.Truth.{any_below}

-- the least number below n that passes, or 0
abbrev pub least_below : ℕ → (ℕ → Bool) → ℕ
least_below zero p = 0
least_below (suc n) p = cond (any_below n p) (least_below n p) (cond (p n) n 0)
