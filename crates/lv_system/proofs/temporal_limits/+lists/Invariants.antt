use Rattle.std.proofs.Common.{◌≡◌, max, drop}
use Rattle.lv_formula.specs.Measures.{at_most_u32}
use Rattle.lv_system.specs.TemporalLimits.{temporal_lists_of_all}
use Rattle.lv_system.proofs.temporal_limits.+lists.Given as goal

abbrev pub invariant-lists_of_list-loop-f : goal.invariant-lists_of_list-loop-f
invariant-lists_of_list-loop-f l = max l.most (at_most_u32 (temporal_lists_of_all (drop l.f-index l.fs))) ≡ at_most_u32 (temporal_lists_of_all l.initial.fs)
