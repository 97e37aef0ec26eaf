use Rattle.std.proofs.Common.{◌≡◌, ◌++◌, map, drop}
use Rattle.lv_struct.specs.Changes.{first_element}
use Rattle.lv_struct.proofs.changes.first_elements.Given as goal

abbrev pub invariant-loop-shape : goal.invariant-loop-shape
invariant-loop-shape l = l.all.items ++ map first_element (drop l.shape-index l.shapes) ≡ map first_element l.shapes
