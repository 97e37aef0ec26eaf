use Rattle.std.proofs.Common.{length}
use Rattle.lv_words.proofs.words.+rest_behind.Given as goal

abbrev pub decreases-rest_behind : goal.decreases-rest_behind
decreases-rest_behind l = length l.prefix.now
