use Rattle.lv_places.specs.Equality.{each_of}
use Rattle.lv_ground.specs.Making.{Makes, reflexive_at}
use Rattle.lv_ground.proofs.equalities.push_all_reflexive.Given as goal

abbrev pub invariant-loop-a : goal.invariant-loop-a
invariant-loop-a l = Makes l.setting l.initial.made (each_of 0 l.a (reflexive_at l.sort)) l.made
