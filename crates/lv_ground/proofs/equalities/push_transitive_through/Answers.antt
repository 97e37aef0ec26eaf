use Rattle.std.proofs.Common.{ap, ◌∙◌, arith}
use Rattle.lv_places.specs.Universes.{count_at}
use Rattle.lv_ground.proofs.Making.{makes_none, loop_next, loop_ends}
use Rattle.lv_ground.specs.Making.{transitive_at}
use Rattle.lv_ground.proofs.equalities.push_transitive_through.Goals as goal

pub loop-c-init : goal.loop-c-init
loop-c-init c = makes_none c.args.setting.now c.args.made.now c.requires.marked

pub loop-c-preserved : goal.loop-c-preserved
loop-c-preserved c = loop_next c.args.setting.now c.args.made.now c.loop-c.made c.push_transitive.new.made c.loop-c.c
    (transitive_at c.args.sort c.args.a c.args.b) c.loop-c.invariant c.in_ok-push_transitive.ensures

pub returns : goal.returns
returns c = loop_ends c.args.setting.now c.args.made.now c.loop-c.made c.loop-c.c _ (transitive_at c.args.sort c.args.a c.args.b) c.loop-c.invariant
    (let e = c.count_of-c-end.ensures ∙ ap (λ l. count_at l c.args.sort) c.as_slice.ensures.value in omega
    (arith, c.loop-c-test.false, c.loop-c.auto.c-end))
