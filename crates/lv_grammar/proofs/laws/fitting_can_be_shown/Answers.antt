use Rattle.lv_grammar.proofs.ShownFormulas.{formulas_can_be_shown}
use Rattle.lv_grammar.proofs.laws.fitting_can_be_shown.Goals as goal

pub returns : goal.returns
returns c p fits words = formulas_can_be_shown p fits words
