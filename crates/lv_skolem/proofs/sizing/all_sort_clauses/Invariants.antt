use Rattle.std.proofs.Common.{◌≡◌}
use Rattle.lv_places.specs.Universes.{count_at}
use Rattle.lv_places.specs.Sizes.{sort_count, sum_to}
use Rattle.lv_skolem.specs.Counting.{capped}
use Rattle.lv_skolem.proofs.sizing.all_sort_clauses.Given as goal

abbrev pub invariant-loop-s : goal.invariant-loop-s
invariant-loop-s l = l.sum ≡ capped (sum_to 0 l.s (λ i. sort_count (count_at l.counts (record { 0 = i }))))
