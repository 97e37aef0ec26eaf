use Rattle.lv_tree.proofs.Reading.{no_fault_of, tree_without_fault}
use Rattle.lv_tree.proofs.laws.tree_or_fault.Goals as goal

pub returns : goal.returns
returns c = λ bytes. ((λ s. no_fault_of bytes s.0 s.1), tree_without_fault bytes)
