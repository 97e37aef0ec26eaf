use Rattle.lv_instances.proofs.Law.{structures_give_assignments}
use Rattle.lv_instances.proofs.laws.structures_give_assignments.Goals as goal

pub returns : goal.returns
returns c = structures_give_assignments
