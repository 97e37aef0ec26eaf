use Rattle.std.proofs.Common.{◌≡◌, ◌++◌, drop, map}
use Rattle.lv_struct.specs.Tables.{meaning}
use Rattle.lv_replay.proofs.rows.same_everywhere.Given as goal

abbrev pub invariant-loop-state : goal.invariant-loop-state
invariant-loop-state l = l.row.items ++ map (λ m. l.value) (map meaning (drop l.state-index l.states)) ≡ map (λ m. l.value) (map meaning l.states)
