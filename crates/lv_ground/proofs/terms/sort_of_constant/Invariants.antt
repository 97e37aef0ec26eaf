use Rattle.std.proofs.Common.{◌≡◌, drop}
use Rattle.lv_places.specs.Universes.{constant_sort}
use Rattle.lv_ground.proofs.terms.sort_of_constant.Given as goal

abbrev pub invariant-loop-shape : goal.invariant-loop-shape
invariant-loop-shape l = constant_sort (drop l.shape-index l.constants) l.sym ≡ constant_sort l.constants l.sym
