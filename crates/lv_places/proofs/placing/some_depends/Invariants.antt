use Rattle.std.proofs.Common.{◌≡◌, ◌&&◌, get_or, false}
use Rattle.lv_formula.specs.Truth.{any_below}
use Rattle.lv_places.specs.Places.{needs}
use Rattle.lv_places.specs.Arounds.{binders_of}
use Rattle.lv_places.proofs.placing.some_depends.Given as goal

abbrev pub invariant-loop-x : goal.invariant-loop-x
invariant-loop-x l = l.found ≡ any_below l.x (λ x. get_or l.is_used x false && needs (binders_of l.around) x l.y)
