use Rattle.std.proofs.Common.{◌≡◌, ◌<◌, ◌≤◌, ◌^◌, map, take}
use Rattle.std.specs.List.{All}
use Rattle.lv_struct.specs.Numbers.{radix, tuple_of}
use Rattle.lv_struct.proofs.numbers.numbers_of.Given as goal

abbrev pub invariant-loop-tuple : goal.invariant-loop-tuple
invariant-loop-tuple l = (l.arity ≤ 4) × (map (tuple_of l.arity) l.numbers.items ≡ take l.tuple-index l.tuples) × All (λ k. k < radix ^ l.arity) l.numbers.items
