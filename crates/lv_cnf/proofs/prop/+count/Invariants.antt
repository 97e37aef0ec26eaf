use Rattle.std.proofs.Common.{◌≡◌, ◌+◌, drop}
use Rattle.lv_cnf.specs.Nodes.{plains, inners}
use Rattle.lv_cnf.proofs.prop.+count.Given as goal

abbrev pub invariant-inner_nodes_of-loop-prop : goal.invariant-inner_nodes_of-loop-prop
invariant-inner_nodes_of-loop-prop l = l.count + inners (plains (drop l.prop-index l.props)) ≡ inners (plains l.props)
