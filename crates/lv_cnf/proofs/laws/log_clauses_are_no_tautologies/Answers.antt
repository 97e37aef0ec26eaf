use Rattle.lv_cnf.proofs.Count.{no_tautologies}
use Rattle.lv_cnf.proofs.laws.log_clauses_are_no_tautologies.Goals as goal

pub returns : goal.returns
returns c vars clauses budget log spent = no_tautologies clauses log spent.new
