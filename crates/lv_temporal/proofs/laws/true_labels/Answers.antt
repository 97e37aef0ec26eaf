use Rattle.lv_temporal.proofs.Listed.{true_labels}
use Rattle.lv_temporal.proofs.Scoped.{scoped}
use Rattle.lv_temporal.proofs.laws.true_labels.Goals as goal

pub returns : goal.returns
returns c = λ p fits. true_labels p (scoped p fits)
