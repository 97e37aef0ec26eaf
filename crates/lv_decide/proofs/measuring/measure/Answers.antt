use Rattle.std.proofs.Common.{◌≡◌, Some, None, sym, subst}
use Rattle.lv_decide.specs.Fragments.{IsFragment}
use Rattle.lv_decide.proofs.SkolemForms.{cycle_found, large_found, size_found}
use Rattle.lv_decide.proofs.measuring.measure.Goals as goal
use Rattle.lv_decide.proofs.measuring.measure.Goals.{in-Some, in-None+in-Some-size, in-None+in-None-size}

pub returns : goal.returns
returns c =
    let voc = c.args.voc.now in
    let s = c.args.s.now in
    let sk = c.in_ok-cycle.field-0 in
    let is = c.in_ok-cycle.ensures in
    elim c.match-cycle.branch [
      | in-Some w ↦ subst (IsFragment voc s) (sym w.result-is) (cycle_found voc s sk is w.in-Some.sorts (cc (c.in_ok-cycle.cycle-is, w.in-Some.is)))
      | in-None+in-Some-size w ↦ subst (IsFragment voc s) (sym w.result-is)
          (size_found voc s sk is w.in-Some-size.size (cc (c.in_ok-cycle.cycle-is, w.in-None.is)) (cc (c.in_ok-cycle.size-is, w.in-Some-size.is)))
      | in-None+in-None-size w ↦ subst (IsFragment voc s) (sym w.result-is)
          (large_found voc s sk is (cc (c.in_ok-cycle.cycle-is, w.in-None.is)) (cc (c.in_ok-cycle.size-is, w.in-None-size.is)))
    ]
