use Rattle.std.proofs.Common.{get_or, ap, ◌∙◌, arith}
use Rattle.lv_places.specs.Universes.{count_at}
use Rattle.lv_ground.specs.Positions.{sort}
use Rattle.lv_ground.specs.Making.{other_at}
use Rattle.lv_ground.proofs.Making.{makes_none, loop_next, loop_ends}
use Rattle.lv_ground.proofs.replacing.push_others.Goals as goal

pub loop-other-init : goal.loop-other-init
loop-other-init c = makes_none c.args.setting.now c.args.made.now c.requires.marked

pub loop-other-preserved : goal.loop-other-preserved
loop-other-preserved c =
    loop_next c.args.setting.now c.args.made.now c.loop-other.made c.push_other.new.made c.loop-other.other
    (other_at c.args.setting.now c.args.head c.args.sorts.now c.args.at c.args.tuple.now) c.loop-other.invariant c.in_ok-push_other.ensures

pub returns : goal.returns
returns c =
    loop_ends c.args.setting.now c.args.made.now c.loop-other.made c.loop-other.other _
    (other_at c.args.setting.now c.args.head c.args.sorts.now c.args.at c.args.tuple.now) c.loop-other.invariant
    (let e = c.count_of-other-end.ensures ∙ ap (λ l. count_at l (get_or c.args.sorts.now c.args.at (sort 0))) c.as_slice.ensures.value in omega
    (arith, c.loop-other-test.false, c.loop-other.auto.other-end))
