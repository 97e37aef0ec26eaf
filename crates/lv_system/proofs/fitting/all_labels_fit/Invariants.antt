use Rattle.std.proofs.Common.{◌≡◌, drop}
use Rattle.lv_system.specs.Fits.{labels_fit}
use Rattle.lv_system.proofs.fitting.all_labels_fit.Given as goal

abbrev pub invariant-loop-label : goal.invariant-loop-label
invariant-loop-label l = labels_fit l.parts (drop l.label-index l.labels) ≡ labels_fit l.parts l.labels
