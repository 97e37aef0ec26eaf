use Rattle.std.proofs.Common.{◌≡◌, ◌++◌, drop}
use Rattle.lv_replay.specs.Rows.{later, later_from}
use Rattle.lv_replay.proofs.rows.at_each_later.Given as goal

abbrev pub invariant-loop-i : goal.invariant-loop-i
invariant-loop-i l = l.row.items ++ later_from l.stem l.values l.i (drop l.i l.values) ≡ later l.stem l.values
