use Rattle.lv_labels.specs.Problem.{problem_of}
use Rattle.lv_temporal.proofs.Bound.{runs_within}
use Rattle.lv_temporal.proofs.Codes.{looks_as_copied, numbering}
use Rattle.lv_temporal.proofs.ProblemFits.{problem_fits}
use Rattle.lv_temporal.proofs.laws.projections.Goals as goal

pub returns : goal.returns
returns c = record {
  numbering = numbering;
  within = λ p fits invariants. runs_within (problem_of p) (problem_fits p fits invariants);
  copies = looks_as_copied;
}
