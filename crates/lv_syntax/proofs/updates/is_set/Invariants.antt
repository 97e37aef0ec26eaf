use Rattle.std.proofs.Common.{◌≡◌, drop}
use Rattle.lv_system.specs.Fits.{is_target}
use Rattle.lv_syntax.proofs.updates.is_set.Given as goal

abbrev pub invariant-loop-update : goal.invariant-loop-update
invariant-loop-update l = is_target l.symbol (drop l.update-index l.updates) ≡ is_target l.symbol l.updates
