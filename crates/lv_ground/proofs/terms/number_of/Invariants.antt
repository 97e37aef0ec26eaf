use Rattle.std.proofs.Common.{◌≡◌, map, drop}
use Rattle.lv_places.specs.Universes.{count_at, product, tuple_number}
use Rattle.lv_ground.proofs.terms.number_of.Given as goal

abbrev pub invariant-loop-i : goal.invariant-loop-i
invariant-loop-i l = record {
  number : l.number ≡ tuple_number (count_at l.counts) (drop l.i l.tuple);
  weight : l.weight ≡ product (count_at l.counts) (map (λ t. t.sort) (drop l.i l.tuple));
}
