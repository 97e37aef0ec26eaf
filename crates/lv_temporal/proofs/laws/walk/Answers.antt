use Rattle.lv_labels.specs.Problem.{problem_of}
use Rattle.lv_temporal.proofs.Bound.{walks}
use Rattle.lv_temporal.proofs.ProblemFits.{kept_in, problem_fits}
use Rattle.lv_temporal.proofs.laws.walk.Goals as goal

pub returns : goal.returns
returns c = λ p fits invariants valid. walks (problem_of p) (problem_fits p fits invariants) (kept_in p fits invariants valid)
