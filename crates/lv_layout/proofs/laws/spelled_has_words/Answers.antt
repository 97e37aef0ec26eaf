use Rattle.lv_layout.proofs.TextLaw.{spelled_has_words}
use Rattle.lv_layout.proofs.laws.spelled_has_words.Goals as goal

pub returns : goal.returns
returns c = spelled_has_words
