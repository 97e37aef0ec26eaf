use Rattle.std.proofs.Common.{◌≡◌}
use Rattle.lv_chain.specs.Chain.{moved}
use Rattle.lv_chain.specs.Formulas.{each}
use Rattle.lv_chain.proofs.chain.fairs.Given as goal

abbrev pub invariant-loop-i : goal.invariant-loop-i
invariant-loop-i l = l.fairs.items ≡ each moved 0 l.i
