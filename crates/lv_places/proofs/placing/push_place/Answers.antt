use Rattle.std.proofs.Common.{◌≡◌, ◌++◌, ◌∷◌, [], List, map, ap, ◌∙◌}
use Rattle.lv_places.specs.declared.skolem.Place.{Place}
use Rattle.lv_places.specs.declared.skolem.PlaceArg.{PlaceArg}
use Rattle.lv_places.specs.Forms.{form_of}
use Rattle.lv_places.specs.Places.{marked_from, sort_of}
use Rattle.lv_places.specs.Arounds.{binders_of}
use Rattle.lv_places.proofs.Marks.{arguments_marked}
use Rattle.lv_places.proofs.placing.push_place.Goals as goal

pub returns-clause-place : goal.returns-clause-place
returns-clause-place c =
    let g = binders_of c.args.around.now in
    let marks = c.as_slice.result.now in
    let right = c.as_slice.ensures.value ∙ c.in_ok-marks.ensures in
    let arguments : c.from_vec.result ≡ marked_from marks 0 (map sort_of g) =
    c.from_vec.ensures ∙ c.in_ok-push_arguments.ensures ∙ ap (λ l. l ++ marked_from marks 0 (map sort_of g)) c.new-arguments.ensures.items in
    let place : List PlaceArg → Place = λ l. record { sort = c.args.sort; arguments = l } in
    c.in_ok-push.ensures.items
    ∙ ap (λ l. c.args.places.now.items ++ place l ∷ []) arguments
    ∙ ap (λ p. c.args.places.now.items ++ p ∷ []) (arguments_marked g c.args.sort (form_of c.args.body.now) marks right)
