use Rattle.std.proofs.Common.{◌≡◌, drop}
use Rattle.lv_labels.specs.Labels.{key_eq}
use Rattle.lv_labels.specs.Once.{each_once, once_behind}
use Rattle.lv_labels.proofs.labelling.once.Given as goal

abbrev pub invariant-loop-key : goal.invariant-loop-key
invariant-loop-key l = once_behind key_eq l.known (drop l.key-index l.keys) ≡ each_once key_eq l.keys
