use Rattle.std.proofs.Common.{◌≡◌, ◌+◌, ◌++◌, drop}
use Rattle.lv_cnf.specs.Nodes.{plains, inners, root_clauses}
use Rattle.lv_cnf.proofs.convert.push_roots.Given as goal

abbrev pub invariant-loop-root : goal.invariant-loop-root
invariant-loop-root l = record {
  count : l.free + inners (plains (drop l.root-index l.roots)) ≡ l.next + inners (plains l.roots);
  so_far : l.out.items ++ root_clauses l.free (plains (drop l.root-index l.roots)) ≡ l.fn.out.items ++ root_clauses l.next (plains l.roots);
}
