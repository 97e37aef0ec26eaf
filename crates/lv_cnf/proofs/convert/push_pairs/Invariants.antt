use Rattle.std.proofs.Common.{◌≡◌, ◌+◌, ◌++◌, map, drop}
use Rattle.lv_cnf.specs.Nodes.{plains, inners, names, pair_with}
use Rattle.lv_cnf.proofs.convert.push_pairs.Given as goal

abbrev pub invariant-loop-prop : goal.invariant-loop-prop
invariant-loop-prop l = record {
  count : l.free + inners (plains (drop l.prop-index l.props)) ≡ l.node + 1 + inners (plains l.props);
  so_far : l.out.items ++ map (pair_with l.node) (names l.free (plains (drop l.prop-index l.props))) ≡ l.fn.out.items ++ map (pair_with l.node) (names (l.node + 1) (plains l.props));
}
