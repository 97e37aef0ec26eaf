use Rattle.std.proofs.Common.{◌<◌, ◌++◌, ◌∷◌, [], sym, ap₂, ◌∙◌, subst, arith}
use Rattle.lv_places.specs.Universes.{count_at}
use Rattle.lv_skolem.specs.Counting.{number_of, AreSmall}
use Rattle.lv_skolem.proofs.Rising.{exact, numbers_next, small_append}
use Rattle.lv_skolem.proofs.counting.next_counts.Goals as goal

pub loop-s-preserved : goal.loop-s-preserved
loop-s-preserved c =
    let n = count_at c.args.counts.now in
    let small : c.in_ok-number.number < 160 = omega (arith, c.if-number-ge-MANY.false) in
    let is = exact c.in_ok-number.number (number_of c.args.sk.now n (record { 0 = c.loop-s.s })) c.in_ok-number.ensures small in
    record {
      so_far = c.in_ok-push.ensures.items ∙ ap₂ (λ l x. l ++ x ∷ []) c.loop-s.invariant.so_far is ∙ numbers_next c.args.sk.now n c.loop-s.s;
      small = subst AreSmall (sym c.in_ok-push.ensures.items) (small_append c.loop-s.next.items c.in_ok-number.number c.loop-s.invariant.small small);
    }
