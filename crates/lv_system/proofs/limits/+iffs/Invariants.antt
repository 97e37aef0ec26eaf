use Rattle.std.proofs.Common.{◌≡◌, max, drop}
use Rattle.lv_formula.specs.Measures.{at_most_u32}
use Rattle.lv_system.specs.Limits.{iffs_of_all}
use Rattle.lv_system.proofs.limits.+iffs.Given as goal

abbrev pub invariant-iffs_of_list-loop-f : goal.invariant-iffs_of_list-loop-f
invariant-iffs_of_list-loop-f l = max l.most (at_most_u32 (iffs_of_all (drop l.f-index l.fs))) ≡ at_most_u32 (iffs_of_all l.initial.fs)
