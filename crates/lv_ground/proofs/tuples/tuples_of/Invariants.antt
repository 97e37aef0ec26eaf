use Rattle.std.proofs.Common.{◌≡◌, drop}
use Rattle.lv_places.specs.Universes.{tuples, count_at}
use Rattle.lv_ground.proofs.tuples.tuples_of.Given as goal

abbrev pub invariant-loop-i : goal.invariant-loop-i
invariant-loop-i l = l.all ≡ tuples (count_at l.counts) (drop l.i l.sorts)
