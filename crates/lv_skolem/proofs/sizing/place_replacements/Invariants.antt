use Rattle.std.proofs.Common.{◌≡◌, ◌≤◌, ◌+◌, drop}
use Rattle.lv_places.specs.Universes.{count_at}
use Rattle.lv_places.specs.Sizes.{places_count}
use Rattle.lv_skolem.specs.Counting.{capped}
use Rattle.lv_skolem.proofs.sizing.place_replacements.Given as goal

abbrev pub invariant-loop-place : goal.invariant-loop-place
invariant-loop-place l = record {
  small : l.sum ≤ 4000001;
  rest : capped (l.sum + places_count (count_at l.counts) (drop l.place-index l.places)) ≡ capped (places_count (count_at l.counts) l.places);
}
