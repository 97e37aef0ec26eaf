use Rattle.std.proofs.Common.{◌≡◌, drop}
use Rattle.lv_formula.specs.Tuples as of_tuples
use Rattle.lv_check.proofs.after_step.has_tuple.Given as goal

abbrev pub invariant-loop-t : goal.invariant-loop-t
invariant-loop-t l = of_tuples.has_tuple (drop l.t-index l.tuples) l.tuple ≡ of_tuples.has_tuple l.tuples l.tuple
