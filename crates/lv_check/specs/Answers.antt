-- What each answer of a check says of the structure.
use Rattle.std.specs.Prelude.{◌≡◌, ℕ, Bool, true, false, List, []}
use Rattle.lv_formula.specs.declared.formula.Formula.{Formula}
use Rattle.lv_formula.specs.Meaning.{Meaning}
use Rattle.lv_formula.specs.Truth.{all_true_in, truth_in}
use Rattle.lv_eval.specs.FirstFalse.{IsFirstFalse}
use Rattle.lv_system.specs.declared.parts.Parts.{Parts}
use Rattle.lv_system.specs.Step.{action_at}
use Rattle.lv_labels.specs.declared.which.Which.{Which}
use Rattle.lv_labels.specs.declared.which.Which.TheVariants.{Start, Step, Catch}
use Rattle.lv_labels.specs.Monitor.{opening, stepped}
use Rattle.lv_labels.specs.Obligations.{Breaks, invariant_at}
use Rattle.lv_labels.specs.Problem.{Problem, problem_of}
use Rattle.lv_oblig.specs.Numbers.{obligation_at}
use Rattle.lv_oblig.specs.Sentences.{hypotheses_of}
use Rattle.lv_check.specs.declared.checking.Checked.{Checked}
use Rattle.lv_check.specs.declared.checking.Checked.TheVariants as C

-- the conclusion: the invariant is true in the opening of the structure, or after the step; that of the catch never is
abbrev pub concludes : Problem → Which → Meaning → Bool
concludes q (Start invariant) m = truth_in (opening q m) (invariant_at q.parts invariant) []
concludes q (Step action mv invariant) m = truth_in (stepped q mv (action_at q.parts action) m) (invariant_at q.parts invariant) []
concludes q Catch m = false

abbrev pub hypotheses_at : Parts → ℕ → List Formula
hypotheses_at p i = hypotheses_of (problem_of p) (obligation_at p i)

-- each answer has a cause that excludes those of the others: in a structure that breaks the obligation every hypothesis is
-- true, and the conclusion false
abbrev pub IsChecked : Parts → ℕ → Meaning → Checked → Type 0
IsChecked p i m C.Breaks = Breaks (problem_of p) (obligation_at p i) m
IsChecked p i m (C.HypothesisFails number) = IsFirstFalse m (hypotheses_at p i) number
IsChecked p i m C.ConclusionHolds = (all_true_in m (hypotheses_at p i) [] ≡ true) × (concludes (problem_of p) (obligation_at p i) m ≡ true)
