use Rattle.std.proofs.Common.{◌≡◌, ◌+◌, ◌<◌, ◌^◌, drop}
use Rattle.lv_formula.specs.Measures.{at_most_u64}
use Rattle.lv_formula.specs.TemporalMeasures.{temporal_nodes_of_all}
use Rattle.lv_formula.proofs.temporal.+nodes.Given as goal

abbrev pub invariant-nodes_of_list-loop-f : goal.invariant-nodes_of_list-loop-f
invariant-nodes_of_list-loop-f l = (l.sum < 2 ^ 64) × (at_most_u64 (l.sum + temporal_nodes_of_all (drop l.f-index l.fs)) ≡ at_most_u64 (temporal_nodes_of_all l.initial.fs))
