use Rattle.lv_labels.specs.Problem.{problem_of}
use Rattle.lv_temporal.proofs.Listed.{true_labels}
use Rattle.lv_temporal.proofs.Scoped.{scoped}
use Rattle.lv_temporal.proofs.Bound.{bounded, bounded_positions}
use Rattle.lv_temporal.proofs.ProblemFits.{kept_and_free, problem_fits}
use Rattle.lv_temporal.proofs.LoopRounds.{meets}
use Rattle.lv_temporal.proofs.laws.sound.Goals as goal

pub returns : goal.returns
returns c = record {
  meets = λ p fits invariants valid. meets p (true_labels p (scoped p fits)) (bounded (problem_of p) (problem_fits p fits invariants) (kept_and_free p fits invariants valid).0 (kept_and_free p fits invariants valid).1);
  bounded = λ p fits invariants valid. bounded_positions p (problem_fits p fits invariants) (kept_and_free p fits invariants valid).0 (kept_and_free p fits invariants valid).1;
}
