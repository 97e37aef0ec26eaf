use Rattle.lv_herbrand.proofs.Law.{ground_clauses_are_exact}
use Rattle.lv_herbrand.proofs.laws.ground_clauses_are_exact.Goals as goal

pub returns : goal.returns
returns c = ground_clauses_are_exact
