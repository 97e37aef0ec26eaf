use Rattle.std.proofs.Common.{◌≡◌, take}
use Rattle.lv_formula.proofs.temporal.+equal.Given as goal

abbrev pub invariant-equal_lists-loop-i : goal.invariant-equal_lists-loop-i
invariant-equal_lists-loop-i l = take l.i l.fs ≡ take l.i l.gs
