use Rattle.lv_layout.proofs.SystemLaw.{system_shown}
use Rattle.lv_layout.proofs.laws.shown_is_spelled.Goals as goal

pub returns : goal.returns
returns c = λ p t u s e. system_shown p t s u e
