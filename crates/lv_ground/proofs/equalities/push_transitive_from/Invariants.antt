use Rattle.lv_places.specs.Equality.{each_of}
use Rattle.lv_ground.specs.Settings.{numbers}
use Rattle.lv_ground.specs.Making.{Makes, transitive_at}
use Rattle.lv_ground.proofs.equalities.push_transitive_from.Given as goal

abbrev pub invariant-loop-b : goal.invariant-loop-b
invariant-loop-b l = Makes l.setting l.initial.made (each_of 0 l.b (λ b. each_of 0 (numbers l.setting l.sort) (transitive_at l.sort l.a b))) l.made
