use Rattle.std.proofs.Common.{ℕ, ◌<◌, ◌≤◌, ◌+◌}
use Rattle.lv_cnf.specs.Packed.{at, clause_at}
use Rattle.lv_watch.specs.Visit.{IsFalse}
use Rattle.lv_watch.proofs.visit.replacement.Given as goal

abbrev pub invariant-loop-place : goal.invariant-loop-place
invariant-loop-place g l = (l.steps + 2 ≤ l.initial.steps + l.place) ×
    ((k : ℕ) → 2 ≤ k → k < l.place → IsFalse l.trail.values.items (at (clause_at l.packed l.clause) k))
