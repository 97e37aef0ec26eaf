use Rattle.lv_labels.proofs.Sameness.{temporal_test}
use Rattle.lv_labels.proofs.key.are_same.Goals as goal

pub returns : goal.returns
returns c = temporal_test c.equal.result c.args.f.now c.args.g.now c.equal.ensures
