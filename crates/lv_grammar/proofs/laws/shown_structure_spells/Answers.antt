use Rattle.lv_grammar.proofs.StructureText.{shown_spells}
use Rattle.lv_grammar.proofs.laws.shown_structure_spells.Goals as goal

pub returns : goal.returns
returns c = shown_spells
