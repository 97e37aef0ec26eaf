use Rattle.lv_fitting.proofs.SystemFits.{system_fits, system_limited}
use Rattle.lv_fitting.proofs.laws.systems_fit.Goals as goal

pub returns : goal.returns
returns c = λ p t is. (system_fits p t is, system_limited p t is)
