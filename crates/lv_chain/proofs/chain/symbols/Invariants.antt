use Rattle.std.proofs.Common.{◌≡◌}
use Rattle.lv_chain.specs.Chain.{place}
use Rattle.lv_chain.specs.Formulas.{each}
use Rattle.lv_chain.proofs.chain.symbols.Given as goal

abbrev pub invariant-loop-i : goal.invariant-loop-i
invariant-loop-i l = l.symbols.items ≡ each place 0 l.i
