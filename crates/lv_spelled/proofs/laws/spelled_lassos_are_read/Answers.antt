use Rattle.lv_spelled.proofs.LassoSpelled.{spelled_lasso_is_read}
use Rattle.lv_spelled.proofs.laws.spelled_lassos_are_read.Goals as goal

pub returns : goal.returns
returns c = spelled_lasso_is_read
