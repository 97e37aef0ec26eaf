use Rattle.std.proofs.Common.{length}
use Rattle.lv_syntax.proofs.labelling.+with_keys.Given as goal

abbrev pub decreases-with_keys : goal.decreases-with_keys
decreases-with_keys l = length l.keys.now
