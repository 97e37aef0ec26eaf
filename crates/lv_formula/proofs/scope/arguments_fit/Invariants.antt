use Rattle.std.proofs.Common.{◌≡◌, drop}
use Rattle.lv_formula.specs.Contexts.{context_of}
use Rattle.lv_formula.specs.Fits.{have_sorts}
use Rattle.lv_formula.proofs.scope.arguments_fit.Given as goal

abbrev pub invariant-loop-i : goal.invariant-loop-i
invariant-loop-i g l = have_sorts (g.L.Lookup.vocabulary l.lookup) (context_of l.scope) (drop l.i l.terms) (drop l.i l.sorts) ≡ have_sorts (g.L.Lookup.vocabulary l.lookup) (context_of l.scope) l.terms l.sorts
