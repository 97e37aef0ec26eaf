use Rattle.lv_formula.proofs.Readings.{true-All}
use Rattle.lv_formula.proofs.laws.true_of_each.Goals as goal

pub returns : goal.returns
returns c = true-All
