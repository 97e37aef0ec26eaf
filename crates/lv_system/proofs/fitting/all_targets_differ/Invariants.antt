use Rattle.std.proofs.Common.{◌≡◌, drop}
use Rattle.lv_system.specs.Fits.{targets_differ}
use Rattle.lv_system.proofs.fitting.all_targets_differ.Given as goal

abbrev pub invariant-loop-i : goal.invariant-loop-i
invariant-loop-i l = targets_differ (drop l.i l.updates) ≡ targets_differ l.updates
