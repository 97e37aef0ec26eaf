use Rattle.std.proofs.Common.{◌≡◌}
use Rattle.lv_chain.specs.Chain.{go}
use Rattle.lv_chain.specs.Formulas.{each}
use Rattle.lv_chain.proofs.chain.actions.Given as goal

abbrev pub invariant-loop-i : goal.invariant-loop-i
invariant-loop-i l = l.actions.items ≡ each go 0 l.i
