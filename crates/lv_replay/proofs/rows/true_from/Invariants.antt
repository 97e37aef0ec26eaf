use Rattle.lv_replay.proofs.RowLaw.{TrueFrom}
use Rattle.lv_replay.proofs.rows.true_from.Given as goal

abbrev pub invariant-loop-i : goal.invariant-loop-i
invariant-loop-i l = TrueFrom l.values l.i l.from
