use Rattle.lv_temporal.proofs.Small.{unhelped_broken}
use Rattle.lv_temporal.proofs.laws.missing_invariant.Goals as goal

pub returns : goal.returns
returns c = unhelped_broken
