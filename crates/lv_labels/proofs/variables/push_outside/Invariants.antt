use Rattle.std.proofs.Common.{◌≡◌, ◌++◌, drop}
use Rattle.lv_labels.specs.Renaming.{outside}
use Rattle.lv_labels.proofs.variables.push_outside.Given as goal

abbrev pub invariant-loop-v : goal.invariant-loop-v
invariant-loop-v l = l.found.items ++ outside (drop l.v-index l.inside) ≡ l.initial.found.items ++ outside l.inside
