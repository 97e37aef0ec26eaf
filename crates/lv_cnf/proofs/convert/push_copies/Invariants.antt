use Rattle.std.proofs.Common.{◌≡◌, ◌++◌, drop}
use Rattle.lv_cnf.proofs.convert.push_copies.Given as goal

abbrev pub invariant-loop-clause : goal.invariant-loop-clause
invariant-loop-clause l = l.out.items ++ drop l.clause-index l.clauses ≡ l.fn.out.items ++ l.clauses
