use Rattle.std.proofs.Common.{◌≡◌, ◌++◌, drop}
use Rattle.lv_labels.specs.Labels.{keys_of_witnesses}
use Rattle.lv_labels.proofs.labelling.push_of_witnesses.Given as goal

abbrev pub invariant-loop-witness : goal.invariant-loop-witness
invariant-loop-witness l = l.found.items ++ keys_of_witnesses (drop l.witness-index l.witnesses) ≡ l.initial.found.items ++ keys_of_witnesses l.witnesses
