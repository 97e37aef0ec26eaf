use Rattle.lv_cnf.proofs.Nodes.{solution_holds}
use Rattle.lv_cnf.proofs.laws.solutions_satisfy_roots.Goals as goal

pub returns : goal.returns
returns c atoms roots equalities a solves = solution_holds atoms a roots equalities solves
