use Rattle.std.proofs.Common.{◌≡◌}
use Rattle.lv_places.specs.Universes.{count_at}
use Rattle.lv_skolem.specs.Counting.{numbers_to, AreSmall}
use Rattle.lv_skolem.proofs.counting.next_counts.Given as goal

abbrev pub invariant-loop-s : goal.invariant-loop-s
invariant-loop-s l = record {
  so_far : l.next.items ≡ numbers_to l.sk (count_at l.counts) l.s;
  small : AreSmall l.next.items;
}
