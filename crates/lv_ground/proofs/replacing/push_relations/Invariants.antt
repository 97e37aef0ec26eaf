use Rattle.std.proofs.Common.{take}
use Rattle.lv_places.specs.Equality.{relation_clauses}
use Rattle.lv_ground.specs.Settings.{numbers}
use Rattle.lv_ground.specs.Making.{Makes}
use Rattle.lv_ground.proofs.replacing.push_relations.Given as goal

abbrev pub invariant-loop-shape : goal.invariant-loop-shape
invariant-loop-shape l = Makes l.setting l.initial.made (relation_clauses (numbers l.setting) (take l.shape-index l.setting.sk.now.relations)) l.made
