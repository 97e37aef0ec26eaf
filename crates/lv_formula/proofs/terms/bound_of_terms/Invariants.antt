use Rattle.std.proofs.Common.{◌≡◌, max, drop}
use Rattle.lv_formula.specs.Measures.{terms_bound}
use Rattle.lv_formula.proofs.terms.bound_of_terms.Given as goal

abbrev pub invariant-loop-term : goal.invariant-loop-term
invariant-loop-term l = max l.most (terms_bound (drop l.term-index l.terms)) ≡ terms_bound l.initial.terms
