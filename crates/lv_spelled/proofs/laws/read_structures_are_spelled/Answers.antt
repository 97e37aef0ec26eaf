use Rattle.lv_spelled.proofs.Read.{read_is_spelled}
use Rattle.lv_spelled.proofs.laws.read_structures_are_spelled.Goals as goal

pub returns : goal.returns
returns c = read_is_spelled
