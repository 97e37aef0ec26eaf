use Rattle.std.proofs.Common.{◌≡◌, ◌++◌, drop, map}
use Rattle.lv_labels.specs.Closing.{numbered}
use Rattle.lv_labels.specs.Rows.{row_condition}
use Rattle.lv_tableau.specs.Sentences.{equation_of, equations_of}
use Rattle.lv_tableau.proofs.equating.each_equation.Given as goal

abbrev pub invariant-loop-l : goal.invariant-loop-l
invariant-loop-l l = l.equations.items ++ numbered equation_of l.l (map row_condition (drop l.l l.labels)) ≡ equations_of (map row_condition l.labels)
