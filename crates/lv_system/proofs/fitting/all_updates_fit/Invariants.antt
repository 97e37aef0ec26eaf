use Rattle.std.proofs.Common.{◌≡◌, drop}
use Rattle.lv_system.specs.Fits.{updates_fit}
use Rattle.lv_system.proofs.fitting.all_updates_fit.Given as goal

abbrev pub invariant-loop-update : goal.invariant-loop-update
invariant-loop-update l = updates_fit l.parts l.params (drop l.update-index l.updates) ≡ updates_fit l.parts l.params l.updates
