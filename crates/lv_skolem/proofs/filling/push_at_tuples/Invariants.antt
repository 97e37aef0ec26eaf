use Rattle.std.proofs.Common.{◌≡◌, ◌++◌, map, drop}
use Rattle.lv_places.specs.declared.terms.GroundTerm.TheVariants as make
use Rattle.lv_skolem.proofs.filling.push_at_tuples.Given as goal

abbrev pub invariant-loop-tuple : goal.invariant-loop-tuple
invariant-loop-tuple l = l.terms.items ++ map (make.Place l.place) (drop l.tuple-index l.tuples) ≡ l.initial.terms.items ++ map (make.Place l.place) l.tuples
