use Rattle.std.proofs.Common.{ap, ◌∙◌, arith}
use Rattle.lv_places.specs.Universes.{count_at}
use Rattle.lv_ground.proofs.Making.{makes_none, loop_next, loop_ends}
use Rattle.lv_ground.specs.Making.{reflexive_at}
use Rattle.lv_ground.proofs.equalities.push_all_reflexive.Goals as goal

pub loop-a-init : goal.loop-a-init
loop-a-init c = makes_none c.args.setting.now c.args.made.now c.requires.marked

pub loop-a-preserved : goal.loop-a-preserved
loop-a-preserved c = loop_next c.args.setting.now c.args.made.now c.loop-a.made c.push_reflexive.new.made c.loop-a.a
    (reflexive_at c.args.sort) c.loop-a.invariant c.in_ok-push_reflexive.ensures

pub returns : goal.returns
returns c = loop_ends c.args.setting.now c.args.made.now c.loop-a.made c.loop-a.a _ (reflexive_at c.args.sort) c.loop-a.invariant
    (let e = c.count_of-a-end.ensures ∙ ap (λ l. count_at l c.args.sort) c.as_slice.ensures.value in omega
    (arith, c.loop-a-test.false, c.loop-a.auto.a-end))
