use Rattle.std.proofs.Common.{◌≡◌, ◌++◌, drop, map}
use Rattle.lv_labels.specs.Closing.{numbered}
use Rattle.lv_labels.specs.Rows.{row_condition}
use Rattle.lv_monitor.specs.Conditions.{label_alike}
use Rattle.lv_monitor.proofs.comparing.push_labels.Given as goal

abbrev pub invariant-loop-l : goal.invariant-loop-l
invariant-loop-l l = l.sentences.items ++ numbered label_alike l.l (map row_condition (drop l.l l.labels)) ≡ l.initial.sentences.items ++ numbered label_alike 0 (map row_condition l.labels)
