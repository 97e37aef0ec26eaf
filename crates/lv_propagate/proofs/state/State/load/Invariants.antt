use Rattle.std.proofs.Common.{◌≡◌, length, take}
use Rattle.lv_propagate.proofs.Loading.{Loaded}
use Rattle.lv_propagate.proofs.state.State.load.Given as goal

abbrev pub invariant-loop-clause : goal.invariant-loop-clause
invariant-loop-clause l = Loaded l.self (take l.clause-index l.clauses) × (length l.self.trail.values.items ≡ length l.initial.self.trail.values.items)
