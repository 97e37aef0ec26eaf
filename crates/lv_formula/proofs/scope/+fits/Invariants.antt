use Rattle.std.proofs.Common.{◌≡◌, drop}
use Rattle.lv_formula.specs.Contexts.{context_of}
use Rattle.lv_formula.specs.Fits.{all_fit_up_to}
use Rattle.lv_formula.proofs.scope.+fits.Given as goal

abbrev pub invariant-all_fit_in_scope-loop-f : goal.invariant-all_fit_in_scope-loop-f
invariant-all_fit_in_scope-loop-f g l = all_fit_up_to (g.L.Lookup.is_free l.lookup) (g.L.Lookup.vocabulary l.lookup) (context_of l.scope) (drop l.f-index l.fs) ≡ all_fit_up_to (g.L.Lookup.is_free l.lookup) (g.L.Lookup.vocabulary l.lookup) (context_of l.scope) l.fs
