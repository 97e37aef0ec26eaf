use Rattle.std.proofs.Common.{◌≡◌, ◌+◌, ◌<◌, ◌^◌, drop, map}
use Rattle.lv_formula.specs.Measures.{at_most_u64}
use Rattle.lv_system.specs.Names.{occurrences}
use Rattle.lv_system.proofs.names.count_in.Given as goal

abbrev pub invariant-loop-item : goal.invariant-loop-item
invariant-loop-item g l = (l.sum < 2 ^ 64) × (at_most_u64 (l.sum + occurrences l.name (map g.T.HasName.text (drop l.item-index l.items))) ≡ at_most_u64 (occurrences l.name (map g.T.HasName.text l.items)))
