use Rattle.std.proofs.Common.{length}
use Rattle.lv_model.proofs.rows.+offset.Given as goal

abbrev pub decreases-offset : goal.decreases-offset
decreases-offset l = length l.offsets.now
