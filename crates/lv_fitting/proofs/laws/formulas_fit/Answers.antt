use Rattle.lv_fitting.proofs.FormulaFits.{deep, nested, fits}
use Rattle.lv_fitting.proofs.laws.formulas_fit.Goals as goal

pub returns : goal.returns
returns c = λ k role voc g room iffs vs f t is. (fits voc g is, nested is, deep is)
