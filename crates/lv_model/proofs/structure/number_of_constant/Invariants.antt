use Rattle.std.proofs.Common.{◌≡◌, ◌+◌, drop}
use Rattle.lv_places.specs.Universes.{constant_number}
use Rattle.lv_model.proofs.structure.number_of_constant.Given as goal

abbrev pub invariant-loop-shape : goal.invariant-loop-shape
invariant-loop-shape l = l.count + constant_number l.sort (drop l.shape-index l.constants) l.sym ≡ constant_number l.sort l.constants l.sym
