use Rattle.lv_command.proofs.CommandLemmas.{names_each_mode}
use Rattle.lv_command.proofs.laws.named_modes.Goals as goal

pub returns : goal.returns
returns c = names_each_mode
