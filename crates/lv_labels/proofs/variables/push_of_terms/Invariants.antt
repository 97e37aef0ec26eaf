use Rattle.std.proofs.Common.{◌≡◌, ◌++◌, drop}
use Rattle.lv_labels.specs.Renaming.{terms_variables}
use Rattle.lv_labels.proofs.variables.push_of_terms.Given as goal

abbrev pub invariant-loop-term : goal.invariant-loop-term
invariant-loop-term l = l.found.items ++ terms_variables (drop l.term-index l.terms) ≡ l.initial.found.items ++ terms_variables l.terms
