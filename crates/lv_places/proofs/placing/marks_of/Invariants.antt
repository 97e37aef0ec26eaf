use Rattle.std.proofs.Common.{◌≡◌, ◌+◌}
use Rattle.lv_places.specs.Forms.{form_of, free}
use Rattle.lv_places.specs.Places.{place_needs, marks_to}
use Rattle.lv_places.specs.Arounds.{binders_of}
use Rattle.lv_places.proofs.placing.marks_of.Given as goal

abbrev pub invariant-loop-x : goal.invariant-loop-x
invariant-loop-x l = l.is_used.items ≡ marks_to l.x (λ x. free (x + 1) (form_of l.body))

abbrev pub invariant-loop-y : goal.invariant-loop-y
invariant-loop-y l = l.marks.items ≡ marks_to l.y (place_needs (binders_of l.around) (form_of l.body))
