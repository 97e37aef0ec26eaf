use Rattle.std.proofs.Common.{◌≡◌, ◌++◌, drop}
use Rattle.lv_struct.specs.Tables.{meaning}
use Rattle.lv_labels.specs.Closing.{numbered}
use Rattle.lv_check.specs.Due.{all_due_after, due_of}
use Rattle.lv_check.proofs.due.due_after.Given as goal

abbrev pub invariant-loop-j : goal.invariant-loop-j
invariant-loop-j l = l.all.items ++ numbered (due_of l.mv (meaning l.m)) l.j (drop l.j l.conditions) ≡ all_due_after l.mv (meaning l.m) l.conditions
