use Rattle.lv_places.specs.Equality.{each_of}
use Rattle.lv_ground.specs.Making.{Makes, transitive_at}
use Rattle.lv_ground.proofs.equalities.push_transitive_through.Given as goal

abbrev pub invariant-loop-c : goal.invariant-loop-c
invariant-loop-c l = Makes l.setting l.initial.made (each_of 0 l.c (transitive_at l.sort l.a l.b)) l.made
