use Rattle.std.proofs.Common.{◌≡◌, take}
use Rattle.lv_formula.proofs.temporal.share_all.Given as goal

abbrev pub invariant-loop-f : goal.invariant-loop-f
invariant-loop-f l = l.all.items ≡ take l.f-index l.fs
