use Rattle.std.proofs.Common.{◌≡◌, ◌++◌, ◌∷◌, map, drop}
use Rattle.lv_ground.proofs.tuples.push_with.Given as goal

abbrev pub invariant-loop-tuple : goal.invariant-loop-tuple
invariant-loop-tuple l = l.all.items ++ map (λ t. l.term ∷ t) (drop l.tuple-index l.tuples) ≡ l.initial.all.items ++ map (λ t. l.term ∷ t) l.tuples
