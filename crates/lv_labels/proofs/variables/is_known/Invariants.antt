use Rattle.std.proofs.Common.{◌≡◌, eqb, drop}
use Rattle.lv_labels.specs.Once.{is_among}
use Rattle.lv_labels.proofs.variables.is_known.Given as goal

abbrev pub invariant-loop-other : goal.invariant-loop-other
invariant-loop-other l = is_among eqb l.v (drop l.other-index l.known) ≡ is_among eqb l.v l.known
