use Rattle.std.proofs.Common.{◌+◌, ap, ap₂, ◌∙◌}
use Rattle.lv_places.specs.Universes.{count_at}
use Rattle.lv_places.specs.Sizes.{sort_count}
use Rattle.lv_skolem.specs.Counting.{capped}
use Rattle.lv_skolem.proofs.Capped.{sum_next}
use Rattle.lv_skolem.proofs.sizing.all_sort_clauses.Goals as goal

pub loop-s-preserved : goal.loop-s-preserved
loop-s-preserved c =
    c.add-sum.ensures
    ∙ ap₂ (λ a b. capped (a + b)) c.loop-s.invariant (c.sort_clauses_of.ensures ∙ ap (λ k. capped (sort_count k)) c.count_of.ensures)
    ∙ sum_next c.loop-s.s (λ i. sort_count (count_at c.args.counts.now (record { 0 = i })))
