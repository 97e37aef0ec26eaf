use Rattle.std.proofs.Common.{◌≡◌, ◌++◌, drop}
use Rattle.lv_labels.proofs.sharing.push_shared.Given as goal

abbrev pub invariant-loop-formula : goal.invariant-loop-formula
invariant-loop-formula l = l.all.items ++ drop l.formula-index l.formulas ≡ l.initial.all.items ++ l.formulas
