use Rattle.lv_system.specs.Step.{action_at}
use Rattle.lv_temporal.proofs.Scoped.{scoped}
use Rattle.lv_oblig.proofs.OpeningLaw.{opening_updated}
use Rattle.lv_oblig.proofs.StepLaw.{stepped_updated}
use Rattle.lv_oblig.proofs.laws.monitor_updates.Goals as goal

pub returns : goal.returns
returns c = record {
  start = opening_updated;
  step = λ p fits n l mv m. stepped_updated p (action_at p n) m ((scoped p fits).updates n l) mv;
}
