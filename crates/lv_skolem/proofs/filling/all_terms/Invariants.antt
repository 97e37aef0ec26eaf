use Rattle.std.proofs.Common.{◌≡◌}
use Rattle.lv_places.specs.Universes.{terms_to, count_at}
use Rattle.lv_skolem.proofs.filling.all_terms.Given as goal

abbrev pub invariant-loop-s : goal.invariant-loop-s
invariant-loop-s l = l.all.items ≡ terms_to l.sk (count_at l.counts) l.s
