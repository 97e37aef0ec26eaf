use Rattle.lv_cnf.proofs.Count.{pairs_differ}
use Rattle.lv_cnf.proofs.laws.log_clauses_differ.Goals as goal

pub returns : goal.returns
returns c vars clauses budget log spent = pairs_differ clauses log spent.new
