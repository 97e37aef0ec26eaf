use Rattle.std.proofs.Common.{◌≡◌, ◌++◌, drop, map}
use Rattle.lv_labels.specs.Problem.{fair_condition}
use Rattle.lv_labels.specs.Rows.{condition_of}
use Rattle.lv_tableau.proofs.conditions.push_fairs.Given as goal

abbrev pub invariant-loop-fair : goal.invariant-loop-fair
invariant-loop-fair l = map condition_of l.conditions.items ++ map fair_condition (drop l.fair-index l.fairs) ≡ map condition_of l.initial.conditions.items ++ map fair_condition l.fairs
