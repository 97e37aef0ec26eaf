use Rattle.std.proofs.Common.{◌≡◌, ◌≤◌, ◌+◌, drop}
use Rattle.lv_places.specs.Universes.{count_at, place_count}
use Rattle.lv_skolem.specs.Counting.{capped}
use Rattle.lv_skolem.proofs.counting.places_terms_of.Given as goal

abbrev pub invariant-loop-place : goal.invariant-loop-place
invariant-loop-place l = record {
  small : l.sum ≤ 4000001;
  rest : capped (l.sum + place_count (count_at l.counts) l.sort (drop l.place-index l.places)) ≡ capped (place_count (count_at l.counts) l.sort l.places);
}
