use Rattle.std.proofs.Common.{◌≡◌, ◌++◌, [], drop}
use Rattle.lv_places.specs.Forms.{forms_of}
use Rattle.lv_places.specs.Places.{places_in_all}
use Rattle.lv_places.proofs.placing.places.Given as goal

abbrev pub invariant-loop-f : goal.invariant-loop-f
invariant-loop-f l = l.places.items ++ places_in_all [] (forms_of (drop l.f-index l.forms)) ≡ places_in_all [] (forms_of l.forms)
