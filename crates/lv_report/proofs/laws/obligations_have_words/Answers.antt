use Rattle.lv_report.proofs.Words.{have_words}
use Rattle.lv_report.proofs.laws.obligations_have_words.Goals as goal

pub returns : goal.returns
returns c = have_words
