use Rattle.std.proofs.Common.{◌≡◌, ◌++◌, drop, map, not}
use Rattle.lv_replay.proofs.rows.opposite.Given as goal

abbrev pub invariant-loop-value : goal.invariant-loop-value
invariant-loop-value l = l.row.items ++ map not (drop l.value-index l.values) ≡ map not l.values
