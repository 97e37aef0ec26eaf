use Rattle.std.proofs.Common.{ap, ◌∙◌, arith}
use Rattle.lv_places.specs.Universes.{count_at}
use Rattle.lv_ground.proofs.Making.{makes_none, loop_next, loop_ends}
use Rattle.lv_places.specs.Equality.{each_of}
use Rattle.lv_ground.specs.Settings.{numbers}
use Rattle.lv_ground.specs.Making.{symmetric_at}
use Rattle.lv_ground.proofs.equalities.push_all_symmetric.Goals as goal

pub loop-a-init : goal.loop-a-init
loop-a-init c = makes_none c.args.setting.now c.args.made.now c.requires.marked

pub loop-a-preserved : goal.loop-a-preserved
loop-a-preserved c = loop_next c.args.setting.now c.args.made.now c.loop-a.made c.push_symmetric_from.new.made c.loop-a.a
    (λ a. each_of 0 (numbers c.args.setting.now c.args.sort) (symmetric_at c.args.sort a)) c.loop-a.invariant c.in_ok-push_symmetric_from.ensures

pub returns : goal.returns
returns c = loop_ends c.args.setting.now c.args.made.now c.loop-a.made c.loop-a.a _
    (λ a. each_of 0 (numbers c.args.setting.now c.args.sort) (symmetric_at c.args.sort a)) c.loop-a.invariant
    (let e = c.count_of-a-end.ensures ∙ ap (λ l. count_at l c.args.sort) c.as_slice.ensures.value in omega
    (arith, c.loop-a-test.false, c.loop-a.auto.a-end))
