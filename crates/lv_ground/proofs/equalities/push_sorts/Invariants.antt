use Rattle.lv_places.specs.Equality.{each_of, sort_clauses}
use Rattle.lv_ground.specs.Positions.{sort}
use Rattle.lv_ground.specs.Settings.{numbers}
use Rattle.lv_ground.specs.Making.{Makes}
use Rattle.lv_ground.proofs.equalities.push_sorts.Given as goal

abbrev pub invariant-loop-s : goal.invariant-loop-s
invariant-loop-s l = Makes l.setting l.initial.made (each_of 0 l.s (λ i. sort_clauses (sort i) (numbers l.setting (sort i)))) l.made
