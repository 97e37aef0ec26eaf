use Rattle.std.proofs.Common.{◌≡◌, ◌++◌, drop, map}
use Rattle.lv_labels.specs.Obligations.{formula_of}
use Rattle.lv_oblig.proofs.making.push_invariants.Given as goal

abbrev pub invariant-loop-invariant : goal.invariant-loop-invariant
invariant-loop-invariant l = l.all.items ++ map formula_of (drop l.invariant-index l.invariants) ≡ l.initial.all.items ++ map formula_of l.invariants
