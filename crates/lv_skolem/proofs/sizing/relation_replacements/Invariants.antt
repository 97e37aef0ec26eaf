use Rattle.std.proofs.Common.{◌≡◌, ◌≤◌, ◌+◌, drop}
use Rattle.lv_places.specs.Universes.{count_at}
use Rattle.lv_places.specs.Sizes.{relations_count}
use Rattle.lv_skolem.specs.Counting.{capped}
use Rattle.lv_skolem.proofs.sizing.relation_replacements.Given as goal

abbrev pub invariant-loop-shape : goal.invariant-loop-shape
invariant-loop-shape l = record {
  small : l.sum ≤ 4000001;
  rest : capped (l.sum + relations_count (count_at l.counts) (drop l.shape-index l.relations)) ≡ capped (relations_count (count_at l.counts) l.relations);
}
