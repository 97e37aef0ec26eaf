use Rattle.std.proofs.Common.{◌≡◌, ◌++◌, drop, map}
use Rattle.lv_labels.specs.Closing.{numbered}
use Rattle.lv_labels.specs.Rows.{condition_of}
use Rattle.lv_monitor.specs.Conditions.{all_none_due, none_due_of}
use Rattle.lv_monitor.proofs.comparing.push_none_due.Given as goal

abbrev pub invariant-loop-j : goal.invariant-loop-j
invariant-loop-j l = l.sentences.items ++ numbered none_due_of l.j (map condition_of (drop l.j l.justice)) ≡ l.initial.sentences.items ++ all_none_due (map condition_of l.justice)
