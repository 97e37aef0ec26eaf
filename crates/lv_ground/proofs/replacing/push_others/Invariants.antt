use Rattle.lv_places.specs.Equality.{each_of}
use Rattle.lv_ground.specs.Making.{Makes, other_at}
use Rattle.lv_ground.proofs.replacing.push_others.Given as goal

abbrev pub invariant-loop-other : goal.invariant-loop-other
invariant-loop-other l = Makes l.setting l.initial.made (each_of 0 l.other (other_at l.setting l.head l.sorts l.at l.tuple)) l.made
