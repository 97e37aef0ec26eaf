use Rattle.std.proofs.Common.{◌≡◌, eqb, drop}
use Rattle.lv_labels.specs.Once.{each_once, once_behind}
use Rattle.lv_labels.proofs.variables.once.Given as goal

abbrev pub invariant-loop-v : goal.invariant-loop-v
invariant-loop-v l = once_behind eqb l.known.items (drop l.v-index l.variables) ≡ each_once eqb l.variables
