use Rattle.std.proofs.Common.{◌≡◌, ◌++◌, drop}
use Rattle.lv_grammar.specs.Labelling.{operator_places_all}
use Rattle.lv_syntax.proofs.labelling.+places.Given as goal

abbrev pub invariant-push_all_places-loop-item : goal.invariant-push_all_places-loop-item
invariant-push_all_places-loop-item l = l.places.items ++ operator_places_all (drop l.item-index l.items) ≡ l.initial.places.items ++ operator_places_all l.items
