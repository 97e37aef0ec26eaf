use Rattle.lv_temporal.proofs.Order.{number}
use Rattle.lv_temporal.proofs.laws.number_of_obligations.Goals as goal

pub returns : goal.returns
returns c = number
