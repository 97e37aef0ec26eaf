use Rattle.std.proofs.Common.{◌≡◌, drop}
use Rattle.lv_system.specs.Fits.{witnesses_fit}
use Rattle.lv_system.proofs.fitting.all_witnesses_fit.Given as goal

abbrev pub invariant-loop-n : goal.invariant-loop-n
invariant-loop-n l = witnesses_fit l.parts l.n (drop l.n l.witnesses) ≡ witnesses_fit l.parts 0 l.witnesses
