use Rattle.std.proofs.Common.{◌≡◌, ◌+◌, ◌++◌, drop}
use Rattle.lv_cnf.specs.Nodes.{plains, inners, nodes_clauses}
use Rattle.lv_cnf.proofs.convert.+push.Given as goal

abbrev pub invariant-push_nodes-loop-prop : goal.invariant-push_nodes-loop-prop
invariant-push_nodes-loop-prop l = record {
  count : l.free + inners (plains (drop l.prop-index l.props)) ≡ l.next + inners (plains l.props);
  so_far : l.out.items ++ nodes_clauses l.free (plains (drop l.prop-index l.props)) ≡ l.fn.out.items ++ nodes_clauses l.next (plains l.props);
}
