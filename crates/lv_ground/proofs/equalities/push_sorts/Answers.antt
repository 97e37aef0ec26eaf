use Rattle.std.proofs.Common.{arith}
use Rattle.lv_places.specs.Equality.{sort_clauses}
use Rattle.lv_ground.specs.Positions.{sort}
use Rattle.lv_ground.specs.Settings.{numbers}
use Rattle.lv_ground.proofs.Making.{makes_none, loop_next, loop_ends}
use Rattle.lv_ground.proofs.equalities.push_sorts.Goals as goal

pub loop-s-init : goal.loop-s-init
loop-s-init c = makes_none c.args.setting.now c.args.made.now c.requires.marked

pub loop-s-preserved : goal.loop-s-preserved
loop-s-preserved c =
    loop_next c.args.setting.now c.args.made.now c.loop-s.made c.push_sort.new.made c.loop-s.s
    (λ i. sort_clauses (sort i) (numbers c.args.setting.now (sort i))) c.loop-s.invariant c.in_ok-push_sort.ensures

pub returns : goal.returns
returns c =
    loop_ends c.args.setting.now c.args.made.now c.loop-s.made c.loop-s.s c.args.setting.now.sk.now.sorts
    (λ i. sort_clauses (sort i) (numbers c.args.setting.now (sort i))) c.loop-s.invariant
    (omega (arith, c.loop-s-test.false, c.loop-s.auto.s-end))
