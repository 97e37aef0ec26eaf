-- The binders that a stack of binders stands for.
use Rattle.std.specs.Prelude.{◌≡◌, List, [], ◌∷◌, length}
use Rattle.lv_places.specs.declared.placing.Around.{Around, Outside, Every', Chosen'}
use Rattle.lv_places.specs.Forms.{form_of}
use Rattle.lv_places.specs.Places.{Binder, Every, Chosen, place_needs, marks_to}

abbrev pub binders_of : Around → List Binder
binders_of Outside = []
binders_of (Every' sort outer around) = Every sort ∷ binders_of around
binders_of (Chosen' sort body marks outer around) = Chosen sort (form_of body.now) ∷ binders_of around

-- the marks of each place say on which variables it depends
abbrev pub IsRight : Around → Type 0
IsRight Outside = Unit {0}
IsRight (Every' sort outer around) = IsRight around
IsRight (Chosen' sort body marks outer around) =
    (marks.now ≡ marks_to (length (binders_of around)) (place_needs (binders_of around) (form_of body.now))) × IsRight around
