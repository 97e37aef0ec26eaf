use Rattle.std.proofs.Common.{length}
use Rattle.lv_check.proofs.after_step.+is_passed.Given as goal

abbrev pub decreases-is_passed : goal.decreases-is_passed
decreases-is_passed l = length l.params.now
