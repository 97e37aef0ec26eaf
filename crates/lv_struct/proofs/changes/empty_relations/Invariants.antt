use Rattle.std.proofs.Common.{◌≡◌, ◌++◌, map, drop}
use Rattle.lv_struct.specs.Changes.{empty_relation}
use Rattle.lv_struct.proofs.changes.empty_relations.Given as goal

abbrev pub invariant-loop-shape : goal.invariant-loop-shape
invariant-loop-shape l = l.all.items ++ map empty_relation (drop l.shape-index l.shapes) ≡ map empty_relation l.shapes
