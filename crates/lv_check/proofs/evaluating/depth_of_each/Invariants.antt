use Rattle.std.proofs.Common.{◌≡◌, drop, max}
use Rattle.lv_formula.specs.Measures.{at_most_u32, depth_of_all}
use Rattle.lv_check.proofs.evaluating.depth_of_each.Given as goal

abbrev pub invariant-loop-f : goal.invariant-loop-f
invariant-loop-f l = max l.most (at_most_u32 (depth_of_all (drop l.f-index l.fs))) ≡ at_most_u32 (depth_of_all l.fs)
