use Rattle.lv_formula.proofs.Readings.{true-Any}
use Rattle.lv_formula.proofs.laws.true_of_some.Goals as goal

pub returns : goal.returns
returns c = true-Any
