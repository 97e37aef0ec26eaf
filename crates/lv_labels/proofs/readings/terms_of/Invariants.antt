use Rattle.std.proofs.Common.{◌≡◌, ◌++◌, drop, map}
use Rattle.lv_formula.specs.declared.terms.Term.TheVariants.{Var}
use Rattle.lv_labels.proofs.readings.terms_of.Given as goal

abbrev pub invariant-loop-v : goal.invariant-loop-v
invariant-loop-v l = l.terms.items ++ map Var (drop l.v-index l.variables) ≡ map Var l.variables
