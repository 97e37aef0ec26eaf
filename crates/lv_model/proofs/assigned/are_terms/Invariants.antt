use Rattle.std.proofs.Common.{◌≡◌, drop}
use Rattle.lv_places.specs.Universes.{counts}
use Rattle.lv_model.specs.Truths.{are_terms}
use Rattle.lv_model.proofs.assigned.are_terms.Given as goal

abbrev pub invariant-loop-i : goal.invariant-loop-i
invariant-loop-i l = are_terms (counts l.u.terms) (drop l.i l.sorts) (drop l.i l.terms) ≡ are_terms (counts l.u.terms) l.sorts l.terms
