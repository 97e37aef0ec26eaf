-- The first of some formulas without free variables that is false.
use Rattle.std.specs.Prelude.{◌≡◌, ℕ, ◌<◌, true, false, List, [], length, get_or, Option, Some, None}
use Rattle.lv_formula.specs.declared.formula.Formula.{Formula}
use Rattle.lv_formula.specs.declared.formula.Formula.TheVariants.{True}
use Rattle.lv_formula.specs.Meaning.{Meaning}
use Rattle.lv_formula.specs.Truth.{truth_in, all_true_in}

-- the formula with the number is false, and those before it are true
pub record IsFirstFalse (m : Meaning) (fs : List Formula) (n : ℕ) : Type 0 where
  pub there : n < length fs
  pub earlier : (i : ℕ) → i < n → truth_in m (get_or fs i True) [] ≡ true
  pub fails : truth_in m (get_or fs n True) [] ≡ false

-- what it says of the formulas that none, or the one with the number, was found to be the first that is false
abbrev pub TellsFirstFalse : Meaning → List Formula → Option ℕ → Type 0
TellsFirstFalse m fs None = all_true_in m fs [] ≡ true
TellsFirstFalse m fs (Some n) = IsFirstFalse m fs n
