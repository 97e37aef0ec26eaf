use Rattle.std.proofs.Common.{length}
use Rattle.lv_syntax.proofs.parameters.+pairs.Given as goal

abbrev pub decreases-pairs : goal.decreases-pairs
decreases-pairs l = length l.items.now
