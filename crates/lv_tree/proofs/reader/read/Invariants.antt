use Rattle.lv_tree.specs.Reader.{HasTaken}
use Rattle.lv_tree.proofs.reader.read.Given as goal

abbrev pub invariant-loop-at : goal.invariant-loop-at
invariant-loop-at l = HasTaken l.bytes l.reader l.at
