use Rattle.std.proofs.Common.{refl}
use Rattle.lv_temporal.proofs.Listed.{true_labels}
use Rattle.lv_temporal.proofs.Scoped.{scoped}
use Rattle.lv_labels.specs.Problem.{problem_of}
use Rattle.lv_temporal.proofs.Bound.{bounded}
use Rattle.lv_temporal.proofs.ProblemFits.{kept_and_free, problem_fits}
use Rattle.lv_temporal.proofs.Small.{small_fair, small_fits, small_invariants_fit, small_run, small_valid}
use Rattle.lv_temporal.proofs.LoopRounds.{meets}
use Rattle.lv_temporal.specs.Small.{small}
use Rattle.lv_temporal.proofs.laws.small_system.Goals as goal

pub returns : goal.returns
returns c = record {
  fits = small_fits;
  invariants = small_invariants_fit;
  obligations = refl;
  valid = small_valid;
  run = small_run;
  fair = small_fair;
  meets = meets small (true_labels small (scoped small small_fits)) (bounded (problem_of small) (problem_fits small small_fits small_invariants_fit) (kept_and_free small small_fits small_invariants_fit small_valid).0 (kept_and_free small small_fits small_invariants_fit small_valid).1);
}
