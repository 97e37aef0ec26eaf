use Rattle.std.proofs.Common.{◌≡◌, ◌++◌, take}
use Rattle.lv_struct.proofs.tuples.push_copies.Given as goal

abbrev pub invariant-loop-tuple : goal.invariant-loop-tuple
invariant-loop-tuple l = l.all.items ≡ l.initial.all.items ++ take l.tuple-index l.tuples
