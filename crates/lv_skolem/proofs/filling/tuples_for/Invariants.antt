use Rattle.std.proofs.Common.{◌≡◌, drop, map}
use Rattle.lv_places.specs.Universes.{tuples, count_at}
use Rattle.lv_skolem.proofs.filling.tuples_for.Given as goal

abbrev pub invariant-loop-i : goal.invariant-loop-i
invariant-loop-i l = l.all ≡ tuples (count_at l.counts) (map (λ a. a.sort) (drop l.i l.arguments))
