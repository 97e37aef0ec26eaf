use Rattle.std.proofs.Common.{◌≡◌, drop, length}
use Rattle.lv_system.specs.Fits.{shapes_fit}
use Rattle.lv_system.proofs.fitting.all_shapes_fit.Given as goal

abbrev pub invariant-loop-symbol : goal.invariant-loop-symbol
invariant-loop-symbol l = shapes_fit (length l.parts.sorts) (drop l.symbol-index l.symbols) ≡ shapes_fit (length l.parts.sorts) l.symbols
