use Rattle.std.proofs.Common.{◌≡◌, ◌++◌, drop, filter}
use Rattle.lv_struct.specs.Tables.{meaning}
use Rattle.lv_labels.specs.Rows.{condition_of}
use Rattle.lv_check.specs.Due.{is_due_after}
use Rattle.lv_check.proofs.due.due_of.Given as goal

abbrev pub invariant-loop-tuple : goal.invariant-loop-tuple
invariant-loop-tuple l = l.left.items ++ filter (is_due_after l.mv (meaning l.m) l.j (condition_of l.condition)) (drop l.tuple-index l.tuple-items) ≡ filter (is_due_after l.mv (meaning l.m) l.j (condition_of l.condition)) l.tuple-items
