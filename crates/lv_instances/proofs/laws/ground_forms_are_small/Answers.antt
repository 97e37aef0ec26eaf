use Rattle.lv_instances.proofs.Few.{ground_forms_are_small}
use Rattle.lv_instances.proofs.laws.ground_forms_are_small.Goals as goal

pub returns : goal.returns
returns c = ground_forms_are_small
