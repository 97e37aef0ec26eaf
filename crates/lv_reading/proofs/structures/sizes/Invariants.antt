use Rattle.std.proofs.Common.{◌≡◌, ◌-◌}
use Rattle.lv_fault.specs.Behind.{front_behind}
use Rattle.lv_reading.specs.Structures.{sizes_in}
use Rattle.lv_reading.proofs.structures.sizes.Given as goal

abbrev pub invariant-loop-k : goal.invariant-loop-k
invariant-loop-k l = front_behind l.sizes.items (sizes_in l.parts l.end l.k (l.sorts - l.k) l.rest) ≡ sizes_in l.parts l.end 0 l.sorts l.items
