-- What the solver's answers say.
use Rattle.std.specs.Prelude.{◌≡◌, ◌<◌, ◌≤◌, ◌+◌, ◌*◌, ◌^◌, ℕ, Bool, List, length}
use Rattle.std.specs.List.{All}
use Rattle.lv_cnf.specs.declared.literal.Lit.{Lit}
use Rattle.lv_cnf.specs.declared.clause.Clauses.{Clauses}
use Rattle.lv_cnf.specs.Literals.{InRange, IsImplied, Satisfies, IsSatisfiable, assignment_of}
use Rattle.lv_cnf.specs.Logs.{AreNew, IsSpentLog}
use Rattle.lv_sat.specs.declared.solver.Verdict.{Verdict}
use Rattle.lv_sat.specs.declared.solver.Verdict.TheVariants.{Unsat, Sat, Spent}
use Rattle.lv_sat.specs.declared.solver.Ending.{Ending}
use Rattle.lv_sat.specs.declared.solver.Ending.TheVariants.{Unsat as EndsUnsat, Sat as EndsSat, Spent as EndsSpent}
use Rattle.lv_sat.specs.declared.solver.Solved.{Solved}

-- a value for each variable, which together satisfy the clauses
abbrev pub IsModel : ℕ → List (List Lit) → List Bool → Type 0
IsModel vars clauses values = (length values ≡ vars) × Satisfies (assignment_of values) clauses

-- what each verdict says; a budget of 3 ^ vars or more is never spent
abbrev pub VerdictIs : Clauses → ℕ → Verdict → Type 0
VerdictIs clauses budget Unsat = IsSatisfiable clauses.list → ⊥
VerdictIs clauses budget (Sat values) = IsModel clauses.vars clauses.list values
VerdictIs clauses budget (Spent log) = IsSpentLog clauses.vars clauses.list budget log × (budget < 3 ^ clauses.vars)

-- what each ending says
abbrev pub EndingIs : Clauses → ℕ → List (List Lit) → Ending → Type 0
EndingIs clauses budget log EndsUnsat = IsSatisfiable clauses.list → ⊥
EndingIs clauses budget log (EndsSat values) = IsModel clauses.vars clauses.list values
EndingIs clauses budget log EndsSpent = length log ≡ budget

-- the log has no more clauses than the budget allows; it is as a spent log is but for its length
pub record SolvedIs (clauses : Clauses) (budget : ℕ) (solved : Solved) : Type 0 where
  pub ending : EndingIs clauses budget solved.log solved.ending
  pub at_most : length solved.log ≤ budget
  pub in_range : All (InRange clauses.vars) solved.log
  pub implied : All (IsImplied clauses.list) solved.log
  pub new : AreNew clauses.list solved.log

-- the most literals that are read where k clauses are learned: over n variables, with q the sum of the squares of
-- the lengths of the clauses
abbrev pub most_reads : ℕ → ℕ → ℕ → ℕ
most_reads q n k = 2 * (k + 1) * (q + k * n * n)
