use Rattle.lv_command.proofs.CommandWords.{asks_where_taken}
use Rattle.lv_command.proofs.laws.asks_where_taken.Goals as goal

pub returns : goal.returns
returns c = asks_where_taken
