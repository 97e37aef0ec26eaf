use Rattle.std.proofs.Common.{◌≡◌, drop}
use Rattle.std.specs.List.{list_any}
use Rattle.lv_places.specs.Forms.{is_term}
use Rattle.lv_places.proofs.occurring.has_constant.Given as goal

abbrev pub invariant-loop-term : goal.invariant-loop-term
invariant-loop-term l = list_any (is_term l.sym) (drop l.term-index l.terms) ≡ list_any (is_term l.sym) l.terms
