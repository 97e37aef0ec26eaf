use Rattle.std.proofs.Common.{length}
use Rattle.lv_syntax.proofs.sections.+section_behind.Given as goal

abbrev pub decreases-section_behind : goal.decreases-section_behind
decreases-section_behind g l = length l.trees.now
