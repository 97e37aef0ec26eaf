use Rattle.std.proofs.Common.{◌≡◌, drop}
use Rattle.lv_formula.specs.Contexts.{context_of}
use Rattle.lv_formula.specs.Fits.{are_scoped}
use Rattle.lv_formula.proofs.scope.all_have_sorts.Given as goal

abbrev pub invariant-loop-term : goal.invariant-loop-term
invariant-loop-term g l = are_scoped (g.L.Lookup.vocabulary l.lookup) (context_of l.scope) (drop l.term-index l.terms) ≡ are_scoped (g.L.Lookup.vocabulary l.lookup) (context_of l.scope) l.terms
