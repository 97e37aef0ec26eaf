use Rattle.std.proofs.Common.{◌≡◌, drop, length}
use Rattle.lv_system.specs.Fits.{are_sorts_below}
use Rattle.lv_system.proofs.fitting.all_are_sorts.Given as goal

abbrev pub invariant-loop-sort : goal.invariant-loop-sort
invariant-loop-sort l = are_sorts_below (length l.parts.sorts) (drop l.sort-index l.sorts) ≡ are_sorts_below (length l.parts.sorts) l.sorts
