use Rattle.std.proofs.Common.{◌≡◌, sym, ap, ◌∙◌, subst, arith}
use Rattle.lv_places.specs.Universes.{count_at}
use Rattle.lv_skolem.specs.Counting.{total, NextIs}
use Rattle.lv_skolem.proofs.Rising.{rises_none, too_large, total_small, stays, sum_risen, next_rises, next_length}
use Rattle.lv_skolem.proofs.counting.counts_of.Goals as goal

pub loop-pass-init : goal.loop-pass-init
loop-pass-init c = record {
  sum = sym c.in_ok-counts.ensures.1;
  rises = rises_none c.args.sk.now c.in_ok-counts.counts c.in_ok-counts.ensures.0 c.in_ok-counts.ensures.1;
  passes = omega arith;
}

pub returns-in-None : goal.returns-in-None
returns-in-None c =
    let h = subst (λ l. NextIs c.args.sk.now (count_at l) c.in_ok-next_counts.field-0) c.as_slice.ensures c.in_ok-next_counts.ensures in
    too_large c.args.sk.now c.loop-pass.counts c.loop-pass.invariant.rises (subst (NextIs c.args.sk.now (count_at c.loop-pass.counts)) c.in-None.is h)

pub sum_of-next_sum-requires : goal.sum_of-next_sum-requires
sum_of-next_sum-requires c =
    let h = subst (λ l. NextIs c.args.sk.now (count_at l) c.in_ok-next_counts.field-0) c.as_slice.ensures c.in_ok-next_counts.ensures in
    let both = subst (NextIs c.args.sk.now (count_at c.loop-pass.counts)) c.in-Some.is h in
    let len = next_length c.args.sk.now c.loop-pass.counts c.in-Some.next c.loop-pass.invariant.rises both.0 in
    let small = total_small c.in-Some.next both.1 in
    let same = ap total c.as_slice-in-Some.ensures in
    omega (arith, len, small, same)

pub returns-then-next_sum-sum : goal.returns-then-next_sum-sum
returns-then-next_sum-sum c =
    let h = subst (λ l. NextIs c.args.sk.now (count_at l) c.in_ok-next_counts.field-0) c.as_slice.ensures c.in_ok-next_counts.ensures in
    let both = subst (NextIs c.args.sk.now (count_at c.loop-pass.counts)) c.in-Some.is h in
    let rises = c.loop-pass.invariant.rises in
    let t : total c.in-Some.next ≡ total c.loop-pass.counts = sym (c.sum_of-next_sum.ensures ∙ ap total c.as_slice-in-Some.ensures) ∙ c.if-next_sum-sum.true
    ∙ c.loop-pass.invariant.sum in
    (rises.len, stays c.args.sk.now c.loop-pass.counts c.in-Some.next rises both.0 t, rises.below)

pub loop-pass-preserved : goal.loop-pass-preserved
loop-pass-preserved c =
    let h = subst (λ l. NextIs c.args.sk.now (count_at l) c.in_ok-next_counts.field-0) c.as_slice.ensures c.in_ok-next_counts.ensures in
    let both = subst (NextIs c.args.sk.now (count_at c.loop-pass.counts)) c.in-Some.is h in
    let rises = c.loop-pass.invariant.rises in
    let sum = c.sum_of-next_sum.ensures ∙ ap total c.as_slice-in-Some.ensures in
    let more = sum_risen c.args.sk.now c.loop-pass.counts c.in-Some.next rises both.0 in
    record {
      sum = sum;
      rises = next_rises c.args.sk.now c.loop-pass.counts c.in-Some.next rises both.0 both.1;
      passes = omega (arith, sum, more, c.loop-pass.invariant.sum, c.loop-pass.invariant.passes, c.if-next_sum-sum.false);
    }

pub returns : goal.returns
returns c =
    let rises = c.loop-pass.invariant.rises in
    let small = total_small c.loop-pass.counts rises.small in
    let len = rises.len in
    absurd (omega (arith, small, len, c.loop-pass.invariant.sum, c.loop-pass.invariant.passes, c.loop-pass-test.false, c.loop-pass.auto._pass-end))
