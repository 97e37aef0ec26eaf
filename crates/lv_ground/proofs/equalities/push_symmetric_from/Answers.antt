use Rattle.std.proofs.Common.{ap, ◌∙◌, arith}
use Rattle.lv_places.specs.Universes.{count_at}
use Rattle.lv_ground.proofs.Making.{makes_none, loop_next, loop_ends}
use Rattle.lv_ground.specs.Making.{symmetric_at}
use Rattle.lv_ground.proofs.equalities.push_symmetric_from.Goals as goal

pub loop-b-init : goal.loop-b-init
loop-b-init c = makes_none c.args.setting.now c.args.made.now c.requires.marked

pub loop-b-preserved : goal.loop-b-preserved
loop-b-preserved c = loop_next c.args.setting.now c.args.made.now c.loop-b.made c.push_symmetric.new.made c.loop-b.b (symmetric_at c.args.sort c.args.a)
    c.loop-b.invariant c.in_ok-push_symmetric.ensures

pub returns : goal.returns
returns c = loop_ends c.args.setting.now c.args.made.now c.loop-b.made c.loop-b.b _ (symmetric_at c.args.sort c.args.a) c.loop-b.invariant
    (let e = c.count_of-b-end.ensures ∙ ap (λ l. count_at l c.args.sort) c.as_slice.ensures.value in omega
    (arith, c.loop-b-test.false, c.loop-b.auto.b-end))
