use Rattle.std.proofs.Common.{◌≡◌, ◌*◌, ◌++◌, map, drop}
use Rattle.lv_model.proofs.rows.scaled.Given as goal

abbrev pub invariant-loop-place : goal.invariant-loop-place
invariant-loop-place l = l.all.items ++ map (λ p. p * l.weight) (drop l.place-index l.firsts) ≡ map (λ p. p * l.weight) l.firsts
