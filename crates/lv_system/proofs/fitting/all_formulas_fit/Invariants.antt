use Rattle.std.proofs.Common.{◌≡◌, drop}
use Rattle.lv_system.specs.Fits.{formulas_fit}
use Rattle.lv_system.specs.Lookups.{vocabulary_of}
use Rattle.lv_system.proofs.fitting.all_formulas_fit.Given as goal

abbrev pub invariant-loop-f : goal.invariant-loop-f
invariant-loop-f l = formulas_fit (vocabulary_of l.usable) (drop l.f-index l.fs) ≡ formulas_fit (vocabulary_of l.usable) l.fs
