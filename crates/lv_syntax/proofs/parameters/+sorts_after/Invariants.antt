use Rattle.std.proofs.Common.{length}
use Rattle.lv_syntax.proofs.parameters.+sorts_after.Given as goal

abbrev pub decreases-sorts_after : goal.decreases-sorts_after
decreases-sorts_after l = length l.items.now
