use Rattle.std.proofs.Common.{◌≡◌, drop}
use Rattle.lv_formula.specs.Contexts.{context_of}
use Rattle.lv_formula.specs.TemporalFits.{all_temporal_fit_in}
use Rattle.lv_formula.proofs.temporal_scope.+fits.Given as goal

abbrev pub invariant-all_fit_in_scope-loop-f : goal.invariant-all_fit_in_scope-loop-f
invariant-all_fit_in_scope-loop-f g l = all_temporal_fit_in (g.L.Lookup.vocabulary l.lookup) (context_of l.scope) (drop l.f-index l.fs) ≡ all_temporal_fit_in (g.L.Lookup.vocabulary l.lookup) (context_of l.scope) l.fs
