use Rattle.std.proofs.Common.{◌≡◌, ◌++◌, drop, map}
use Rattle.lv_labels.specs.Table.{own_key}
use Rattle.lv_labels.proofs.labelling.own_keys.Given as goal

abbrev pub invariant-loop-label : goal.invariant-loop-label
invariant-loop-label l = l.own.items ++ map own_key (drop l.label-index l.labels) ≡ map own_key l.labels
