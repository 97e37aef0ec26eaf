use Rattle.lv_layout.proofs.TextLaw.{answer_again}
use Rattle.lv_layout.proofs.texts.show.Goals as goal

pub returns-clause-again : goal.returns-clause-again
returns-clause-again c = λ t s. answer_again c.show_system.result c.args.system.now t c.show_system.ensures s
