use Rattle.lv_spelled.proofs.LassoRead.{read_lasso_is_spelled}
use Rattle.lv_spelled.proofs.laws.read_lassos_are_spelled.Goals as goal

pub returns : goal.returns
returns c = read_lasso_is_spelled
