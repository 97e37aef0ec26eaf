use Rattle.lv_spelled.proofs.Spelled.{spelled_is_read}
use Rattle.lv_spelled.proofs.laws.spelled_structures_are_read.Goals as goal

pub returns : goal.returns
returns c = spelled_is_read
