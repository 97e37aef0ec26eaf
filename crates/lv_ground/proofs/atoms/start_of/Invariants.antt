use Rattle.std.proofs.Common.{◌≡◌, ◌+◌, drop, take}
use Rattle.lv_ground.specs.Positions.{relation_start, relation_rows}
use Rattle.lv_ground.specs.Settings.{numbers}
use Rattle.lv_ground.proofs.atoms.start_of.Given as goal

abbrev pub invariant-loop-i : goal.invariant-loop-i
invariant-loop-i l = relation_rows (numbers l.setting) (take l.i l.setting.sk.now.relations) + relation_start (numbers l.setting)
    (drop l.i l.setting.sk.now.relations) l.sym ≡ relation_start (numbers l.setting) l.setting.sk.now.relations l.sym
