use Rattle.std.proofs.Common.{◌≡◌, drop}
use Rattle.lv_places.specs.Universes.{counts, product}
use Rattle.lv_model.proofs.assigned.product_of.Given as goal

abbrev pub invariant-loop-i : goal.invariant-loop-i
invariant-loop-i l = l.all ≡ product (counts l.u.terms) (drop l.i l.sorts)
