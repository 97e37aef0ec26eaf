use Rattle.std.proofs.Common.{arith}
use Rattle.lv_places.specs.Equality.{replacements_at}
use Rattle.lv_ground.specs.Settings.{numbers}
use Rattle.lv_ground.specs.Making.{change_of}
use Rattle.lv_ground.proofs.Making.{makes_none, loop_next, loop_ends}
use Rattle.lv_ground.proofs.replacing.push_replacements.Goals as goal

pub loop-at-init : goal.loop-at-init
loop-at-init c = makes_none c.args.setting.now c.args.made.now c.requires.marked

pub loop-at-preserved : goal.loop-at-preserved
loop-at-preserved c =
    loop_next c.args.setting.now c.args.made.now c.loop-at.made c.push_argument.new.made c.loop-at.at
    (replacements_at (numbers c.args.setting.now) c.args.sorts.now (change_of c.args.setting.now c.args.head)) c.loop-at.invariant
    c.in_ok-push_argument.ensures

pub returns : goal.returns
returns c =
    loop_ends c.args.setting.now c.args.made.now c.loop-at.made c.loop-at.at _
    (replacements_at (numbers c.args.setting.now) c.args.sorts.now (change_of c.args.setting.now c.args.head)) c.loop-at.invariant (omega arith)
