use Rattle.std.proofs.Common.{length}
use Rattle.lv_words.proofs.terms.+terms_after.Given as goal

abbrev pub decreases-terms_after : goal.decreases-terms_after
decreases-terms_after l = length l.items.now
