use Rattle.std.proofs.Common.{◌≡◌, ◌++◌, drop, map}
use Rattle.lv_labels.specs.Table.{label_row}
use Rattle.lv_labels.proofs.labelling.label_rows.Given as goal

abbrev pub invariant-loop-key : goal.invariant-loop-key
invariant-loop-key l = l.labels.items ++ map (label_row l.keys l.own) (drop l.key-index l.keys) ≡ map (label_row l.keys l.own) l.keys
