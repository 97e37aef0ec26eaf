use Rattle.lv_cnf.proofs.Nodes.{nodes_solve}
use Rattle.lv_cnf.proofs.laws.nodes_extend_assignments.Goals as goal

pub returns : goal.returns
returns c atoms roots equalities a below in_range holds = nodes_solve atoms a roots equalities below in_range holds.0 holds.1
