use Rattle.lv_report.proofs.Words.{are_spelled}
use Rattle.lv_report.proofs.laws.countermodels_are_spelled.Goals as goal

pub returns : goal.returns
returns c = are_spelled
