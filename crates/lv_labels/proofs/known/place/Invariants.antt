use Rattle.std.proofs.Common.{◌≡◌, ◌+◌, drop}
use Rattle.lv_labels.specs.Labels.{key_eq}
use Rattle.lv_labels.specs.Once.{place_of}
use Rattle.lv_labels.proofs.known.place.Given as goal

abbrev pub invariant-loop-i : goal.invariant-loop-i
invariant-loop-i l = l.i + place_of key_eq l.key (drop l.i l.keys) ≡ place_of key_eq l.key l.keys
