use Rattle.lv_places.specs.Equality.{each_of}
use Rattle.lv_ground.specs.Settings.{numbers}
use Rattle.lv_ground.specs.Making.{Makes, symmetric_at}
use Rattle.lv_ground.proofs.equalities.push_all_symmetric.Given as goal

abbrev pub invariant-loop-a : goal.invariant-loop-a
invariant-loop-a l = Makes l.setting l.initial.made (each_of 0 l.a (λ a. each_of 0 (numbers l.setting l.sort) (symmetric_at l.sort a))) l.made
