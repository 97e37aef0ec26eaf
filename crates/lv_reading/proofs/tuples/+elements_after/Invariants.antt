use Rattle.std.proofs.Common.{length}
use Rattle.lv_reading.proofs.tuples.+elements_after.Given as goal

abbrev pub decreases-elements_after : goal.decreases-elements_after
decreases-elements_after l = length l.items.now
