use Rattle.std.proofs.Common.{take}
use Rattle.lv_propagate.specs.Repeats.{IsUnrepeated}
use Rattle.lv_propagate.proofs.repeats.without_repeats.Given as goal

abbrev pub invariant-loop-lit : goal.invariant-loop-lit
invariant-loop-lit l = IsUnrepeated l.out.items (take l.lit-index l.lits)
