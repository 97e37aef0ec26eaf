use Rattle.lv_spelling.proofs.FormulaRules.{formula_is}
use Rattle.lv_spelling.proofs.FormulaReplay.{formula_again}
use Rattle.lv_spelling.proofs.laws.formulas_are_spelled.Goals as goal

pub returns : goal.returns
returns c = λ k role room iffs vs t f. (formula_is k role room iffs vs t f, formula_again k role room iffs vs f t)
