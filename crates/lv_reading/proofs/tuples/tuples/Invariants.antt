use Rattle.std.proofs.Common.{◌≡◌, drop}
use Rattle.std.specs.List.{All}
use Rattle.lv_struct.specs.Tables.{IsInRange}
use Rattle.lv_fault.specs.Behind.{behind}
use Rattle.lv_reading.specs.Structures.{tuples_in}
use Rattle.lv_reading.proofs.tuples.tuples.Given as goal

abbrev pub invariant-loop-tree : goal.invariant-loop-tree
invariant-loop-tree l =
    (behind l.tuples.items (tuples_in l.m.sizes l.sorts (drop l.tree-index l.items)) ≡ tuples_in l.m.sizes l.sorts l.items)
    × All (IsInRange l.m.sizes l.sorts) l.tuples.items
