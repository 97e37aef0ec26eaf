use Rattle.std.proofs.Common.{◌≡◌, drop}
use Rattle.lv_system.specs.Fits.{invariants_fit}
use Rattle.lv_system.proofs.fitting.all_invariants_fit.Given as goal

abbrev pub invariant-loop-invariant : goal.invariant-loop-invariant
invariant-loop-invariant l = invariants_fit l.parts (drop l.invariant-index l.invariants) ≡ invariants_fit l.parts l.invariants
