use Rattle.std.proofs.Common.{◌≡◌}
use Rattle.lv_places.specs.Universes.{heads}
use Rattle.lv_ground.proofs.tuples.put_each_before.Given as goal

abbrev pub invariant-loop-place : goal.invariant-loop-place
invariant-loop-place l = l.all.items ≡ heads l.sort l.place l.tuples
