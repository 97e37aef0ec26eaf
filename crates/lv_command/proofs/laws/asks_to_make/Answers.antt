use Rattle.lv_command.proofs.CommandWords.{asks_to_make}
use Rattle.lv_command.proofs.laws.asks_to_make.Goals as goal

pub returns : goal.returns
returns c = asks_to_make
