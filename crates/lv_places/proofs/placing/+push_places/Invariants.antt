use Rattle.std.proofs.Common.{◌≡◌, ◌++◌, drop}
use Rattle.lv_places.specs.Forms.{forms_of}
use Rattle.lv_places.specs.Places.{places_in_all}
use Rattle.lv_places.specs.Arounds.{binders_of}
use Rattle.lv_places.proofs.placing.+push_places.Given as goal

abbrev pub invariant-push_all_places-loop-f : goal.invariant-push_all_places-loop-f
invariant-push_all_places-loop-f l = l.places.items ++ places_in_all (binders_of l.around) (forms_of (drop l.f-index l.fs)) ≡ l.fn.places.items
    ++ places_in_all (binders_of l.around) (forms_of l.fs)
