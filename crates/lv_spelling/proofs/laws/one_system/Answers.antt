use Rattle.lv_spelling.proofs.OneSystem.{spells_at_most_one}
use Rattle.lv_spelling.proofs.laws.one_system.Goals as goal

pub returns : goal.returns
returns c = spells_at_most_one
