use Rattle.std.proofs.Common.{◌≡◌, ◌++◌, map, drop}
use Rattle.lv_model.specs.Quotients.{element_of}
use Rattle.lv_model.proofs.structure.elements_of.Given as goal

abbrev pub invariant-loop-shape : goal.invariant-loop-shape
invariant-loop-shape l = l.elements.items ++ map (element_of l.st l.classes) (drop l.shape-index l.constants) ≡ map (element_of l.st l.classes) l.constants
