use Rattle.std.proofs.Common.{length}
use Rattle.lv_check.proofs.due.+is_over_touched.Given as goal

abbrev pub decreases-is_over_touched : goal.decreases-is_over_touched
decreases-is_over_touched l = length l.sorts.now
