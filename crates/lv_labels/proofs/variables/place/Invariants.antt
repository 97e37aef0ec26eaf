use Rattle.std.proofs.Common.{◌≡◌, ◌+◌, eqb, drop}
use Rattle.lv_labels.specs.Once.{place_of}
use Rattle.lv_labels.proofs.variables.place.Given as goal

abbrev pub invariant-loop-i : goal.invariant-loop-i
invariant-loop-i l = l.i + place_of eqb l.v (drop l.i l.variables) ≡ place_of eqb l.v l.variables
