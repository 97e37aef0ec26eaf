use Rattle.std.proofs.Common.{length}
use Rattle.lv_syntax.proofs.labelling.+check_free.Given as goal

abbrev pub decreases-check_free : goal.decreases-check_free
decreases-check_free l = length l.free.now
