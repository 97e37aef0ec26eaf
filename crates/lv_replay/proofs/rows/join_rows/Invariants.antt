use Rattle.std.proofs.Common.{◌≡◌, ◌++◌, drop}
use Rattle.lv_replay.specs.Rows.{joined}
use Rattle.lv_replay.proofs.rows.join_rows.Given as goal

abbrev pub invariant-loop-i : goal.invariant-loop-i
invariant-loop-i l = l.row.items ++ joined l.how (drop l.i l.a) (drop l.i l.b) ≡ joined l.how l.a l.b
