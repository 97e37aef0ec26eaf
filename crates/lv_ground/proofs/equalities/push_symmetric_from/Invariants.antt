use Rattle.lv_places.specs.Equality.{each_of}
use Rattle.lv_ground.specs.Making.{Makes, symmetric_at}
use Rattle.lv_ground.proofs.equalities.push_symmetric_from.Given as goal

abbrev pub invariant-loop-b : goal.invariant-loop-b
invariant-loop-b l = Makes l.setting l.initial.made (each_of 0 l.b (symmetric_at l.sort l.a)) l.made
