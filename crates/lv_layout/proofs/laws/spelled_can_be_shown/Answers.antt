use Rattle.lv_grammar.proofs.ShownFormulas.{formulas_can_be_shown}
use Rattle.lv_fitting.proofs.SystemFits.{system_fits}
use Rattle.lv_layout.proofs.TextLaw.{spelled_has_words}
use Rattle.lv_layout.proofs.laws.spelled_can_be_shown.Goals as goal

pub returns : goal.returns
returns c = λ p t s. formulas_can_be_shown p (system_fits p t s) (spelled_has_words p t s)
