use Rattle.lv_grammar.proofs.OneStructure.{one_structure}
use Rattle.lv_grammar.proofs.laws.one_structure.Goals as goal

pub returns : goal.returns
returns c = one_structure
