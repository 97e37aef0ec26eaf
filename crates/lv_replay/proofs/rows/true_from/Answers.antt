use Rattle.std.proofs.Common.{◌+◌, sym, subst}
use Rattle.lv_replay.proofs.RowLaw.{TrueFrom, true_from-anew, true_from-more}
use Rattle.lv_replay.proofs.rows.true_from.Goals as goal
use Rattle.lv_replay.proofs.rows.true_from.Goals.{then-not-values-i, else-not-values-i}

pub loop-i-preserved : goal.loop-i-preserved
loop-i-preserved c =
    let i = c.loop-i.i in
    let values = c.args.values.now in
    elim c.if-not-values-i.branch [
      | then-not-values-i w ↦ subst (TrueFrom values (i + 1)) (sym w.from-is) (true_from-anew values i c.loop-i.from c.loop-i-test.true w.if-not-values-i.true c.loop-i.invariant)
      | else-not-values-i w ↦ subst (TrueFrom values (i + 1)) (sym w.from-is) (true_from-more values i c.loop-i.from c.loop-i-test.true w.if-not-values-i.false c.loop-i.invariant)
    ]
