use Rattle.lv_formula.proofs.AgreeLaw.{truth_agrees}
use Rattle.lv_formula.proofs.laws.truth_in_structures_that_agree.Goals as goal

pub returns : goal.returns
returns c = truth_agrees
