use Rattle.std.proofs.Common.{◌≡◌, drop}
use Rattle.lv_places.specs.Universes.{count_at, product}
use Rattle.lv_ground.proofs.setting.product_of.Given as goal

abbrev pub invariant-loop-i : goal.invariant-loop-i
invariant-loop-i l = l.all ≡ product (count_at l.counts) (drop l.i l.sorts)
