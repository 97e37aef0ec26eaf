use Rattle.std.proofs.Common.{◌≡◌, map, drop}
use Rattle.lv_places.specs.Universes.{counts, product, tuple_number}
use Rattle.lv_model.proofs.assigned.number_of.Given as goal

abbrev pub invariant-loop-i : goal.invariant-loop-i
invariant-loop-i l = record {
  number : l.number ≡ tuple_number (counts l.u.terms) (drop l.i l.tuple);
  weight : l.weight ≡ product (counts l.u.terms) (map (λ t. t.sort) (drop l.i l.tuple));
}
