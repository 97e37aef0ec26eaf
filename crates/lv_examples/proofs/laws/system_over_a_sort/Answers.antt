use Rattle.std.proofs.Common.{refl}
use Rattle.lv_temporal.proofs.Listed.{true_labels}
use Rattle.lv_temporal.proofs.Scoped.{scoped}
use Rattle.lv_labels.specs.Problem.{problem_of}
use Rattle.lv_temporal.proofs.Bound.{bounded}
use Rattle.lv_temporal.proofs.ProblemFits.{kept_and_free, problem_fits}
use Rattle.lv_temporal.proofs.LoopRounds.{meets}
use Rattle.lv_examples.proofs.Visits.{visits_valid}
use Rattle.lv_examples.proofs.VisitsProblem.{visits_fit, visits_invariants_fit}
use Rattle.lv_examples.proofs.VisitsRun.{visits_rounds, visits_run}
use Rattle.lv_examples.specs.Visits.{visits}
use Rattle.lv_examples.proofs.laws.system_over_a_sort.Goals as goal

pub returns : goal.returns
returns c =
    let free = kept_and_free visits visits_fit visits_invariants_fit visits_valid in
    record {
      fits = visits_fit;
      invariants = visits_invariants_fit;
      obligations = refl;
      valid = visits_valid;
      run = visits_run;
      rounds = visits_rounds;
      meets = meets visits (true_labels visits (scoped visits visits_fit))
          (bounded (problem_of visits) (problem_fits visits visits_fit visits_invariants_fit) free.0 free.1);
    }
