use Rattle.std.proofs.Common.{◌≡◌, ◌+◌, ◌++◌, drop}
use Rattle.lv_cnf.specs.Nodes.{plains, inners, names}
use Rattle.lv_cnf.proofs.convert.push_names.Given as goal

abbrev pub invariant-loop-prop : goal.invariant-loop-prop
invariant-loop-prop l = record {
  count : l.free + inners (plains (drop l.prop-index l.props)) ≡ l.next + inners (plains l.props);
  so_far : l.lits.items ++ names l.free (plains (drop l.prop-index l.props)) ≡ l.fn.lits.items ++ names l.next (plains l.props);
}
