use Rattle.std.proofs.Common.{◌≡◌, drop}
use Rattle.lv_system.specs.Fits.{fairs_fit}
use Rattle.lv_system.proofs.fitting.all_fairs_fit.Given as goal

abbrev pub invariant-loop-fair : goal.invariant-loop-fair
invariant-loop-fair l = fairs_fit l.parts (drop l.fair-index l.fairs) ≡ fairs_fit l.parts l.fairs
