use Rattle.lv_struct.specs.Tables.{meaning}
use Rattle.lv_system.proofs.FitsFacts.{fitting}
use Rattle.lv_labels.specs.Problem.{problem_of}
use Rattle.lv_labels.specs.Vocabularies.{catch_vocabulary}
use Rattle.lv_temporal.proofs.SortsThere.{sorts_there}
use Rattle.lv_oblig.proofs.ConditionsLaw.{compare-each, compare-from, may_move-each, may_move-from}
use Rattle.lv_oblig.proofs.Tight.{tight}
use Rattle.lv_oblig.proofs.laws.monitor_conditions.Goals as goal

pub returns : goal.returns
returns c = record {
  moves = λ p w sound has mv. (
    may_move-each (problem_of p) (meaning w) (tight (catch_vocabulary (problem_of p)) w sound has) mv,
    may_move-from (problem_of p) (meaning w) (tight (catch_vocabulary (problem_of p)) w sound has) mv,
  );
  compare = λ p fits w sound has. (
    compare-each (problem_of p) (meaning w) (tight (catch_vocabulary (problem_of p)) w sound has) (sorts_there p (fitting p fits)),
    compare-from (problem_of p) (meaning w) (tight (catch_vocabulary (problem_of p)) w sound has),
  );
}
