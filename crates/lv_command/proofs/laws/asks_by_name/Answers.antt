use Rattle.lv_command.proofs.CommandWords.{asks_by_name}
use Rattle.lv_command.proofs.laws.asks_by_name.Goals as goal

pub returns : goal.returns
returns c = asks_by_name
