use Rattle.lv_tree.proofs.Reading.{at_most_one}
use Rattle.lv_tree.proofs.laws.one_tree.Goals as goal

pub returns : goal.returns
returns c = at_most_one
