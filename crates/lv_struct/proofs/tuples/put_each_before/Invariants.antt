use Rattle.std.proofs.Common.{◌≡◌}
use Rattle.lv_formula.specs.Tuples.{each_before}
use Rattle.lv_struct.proofs.tuples.put_each_before.Given as goal

abbrev pub invariant-loop-element : goal.invariant-loop-element
invariant-loop-element l = l.all.items ≡ each_before l.element l.tuples
