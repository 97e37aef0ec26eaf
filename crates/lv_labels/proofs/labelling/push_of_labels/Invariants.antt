use Rattle.std.proofs.Common.{◌≡◌, ◌++◌, drop}
use Rattle.lv_labels.specs.Labels.{keys_of_labels}
use Rattle.lv_labels.proofs.labelling.push_of_labels.Given as goal

abbrev pub invariant-loop-label : goal.invariant-loop-label
invariant-loop-label l = l.found.items ++ keys_of_labels (drop l.label-index l.labels) ≡ l.initial.found.items ++ keys_of_labels l.labels
