use Rattle.std.proofs.Common.{◌≡◌, drop}
use Rattle.lv_formula.specs.Tuples.{tuples_over}
use Rattle.lv_struct.proofs.tabulation.tuples_of_sorts.Given as goal

abbrev pub invariant-loop-i : goal.invariant-loop-i
invariant-loop-i g l = l.all ≡ tuples_over (g.I.Interpretation.meaning l.of).size (drop l.i l.sorts)
