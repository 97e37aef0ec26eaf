-- Whether fairness conditions are met in the loop, as tests over lists of structures and tuples.
use Rattle.std.specs.Prelude.{ℕ, suc, Bool, true, false, ◌&&◌, ◌||◌, cond, List, [], ◌∷◌, reverse, Option, Some, None}
use Rattle.lv_formula.specs.declared.symbols.SortId.{SortId}
use Rattle.lv_formula.specs.declared.formula.Formula.{Formula}
use Rattle.lv_formula.specs.Meaning.{Meaning}
use Rattle.lv_formula.specs.Tuples.{tuples_over}
use Rattle.lv_formula.specs.Truth.{truth_in}
use Rattle.lv_system.specs.declared.parts.Fair.{Fair}

-- the formula is true of the tuple in one of the structures
abbrev pub is_met : Formula → List ℕ → List Meaning → Bool
is_met f tuple [] = false
is_met f tuple (m ∷ ms) = truth_in m f (reverse tuple) || is_met f tuple ms

abbrev pub are_met : Formula → List Meaning → List (List ℕ) → Bool
are_met f ms [] = true
are_met f ms (t ∷ ts) = is_met f t ms && are_met f ms ts

-- the number of the first condition that fails for some tuple, where the first has the number n
abbrev pub first_unmet : (SortId → ℕ) → List Meaning → ℕ → List Fair → Option ℕ
first_unmet size ms n [] = None
first_unmet size ms n (c ∷ cs) = cond (are_met c.condition ms (tuples_over size c.params)) (first_unmet size ms (suc n) cs) (Some n)

abbrev pub condition_of : Fair → Formula
condition_of c = c.condition
