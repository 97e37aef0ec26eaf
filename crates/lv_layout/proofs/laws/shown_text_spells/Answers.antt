use Rattle.lv_layout.proofs.TextLaw.{shown_text_spells}
use Rattle.lv_layout.proofs.laws.shown_text_spells.Goals as goal

pub returns : goal.returns
returns c = shown_text_spells
