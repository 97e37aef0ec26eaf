use Rattle.std.proofs.Common.{◌≡◌, ◌++◌, drop, map}
use Rattle.lv_labels.specs.Closing.{numbered}
use Rattle.lv_labels.specs.Rows.{condition_of, row_justice}
use Rattle.lv_tableau.proofs.conditions.push_labels.Given as goal

abbrev pub invariant-loop-l : goal.invariant-loop-l
invariant-loop-l l = map condition_of l.conditions.items ++ numbered row_justice l.l (drop l.l l.labels) ≡ map condition_of l.initial.conditions.items ++ numbered row_justice 0 l.labels
