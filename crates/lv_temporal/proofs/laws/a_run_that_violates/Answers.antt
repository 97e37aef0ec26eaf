use Rattle.lv_temporal.proofs.SampleLaws.{still_fair, still_run, still_violates}
use Rattle.lv_temporal.proofs.laws.a_run_that_violates.Goals as goal

pub returns : goal.returns
returns c = record { run = still_run; fair = still_fair; violated = still_violates }
