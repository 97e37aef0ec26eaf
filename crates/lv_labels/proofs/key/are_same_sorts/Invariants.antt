use Rattle.std.proofs.Common.{◌≡◌, drop}
use Rattle.lv_formula.specs.Symbols.{sorts_eq}
use Rattle.lv_labels.proofs.key.are_same_sorts.Given as goal

abbrev pub invariant-loop-i : goal.invariant-loop-i
invariant-loop-i l = sorts_eq (drop l.i l.a) (drop l.i l.b) ≡ sorts_eq l.a l.b
