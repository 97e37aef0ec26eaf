use Rattle.std.proofs.Common.{◌≡◌, drop}
use Rattle.std.specs.List.{list_any}
use Rattle.lv_places.specs.Forms.{in_term}
use Rattle.lv_places.proofs.placing.has_variable.Given as goal

abbrev pub invariant-loop-term : goal.invariant-loop-term
invariant-loop-term l = list_any (in_term l.x) (drop l.term-index l.terms) ≡ list_any (in_term l.x) l.terms
