use Rattle.std.proofs.Common.{◌≡◌, ◌<◌, ◌^◌, get_or, sym, ap, subst, ◌∙◌, rules}
use Rattle.std.specs.List.{All}
use Rattle.std.proofs.lemmas.List.Elements.{All-push}
use Rattle.lv_struct.specs.Numbers.{number_at, radix}
use Rattle.lv_struct.proofs.NumberLaws.{number_at_tells, one_more_number}
use Rattle.lv_struct.proofs.numbers.numbers_of.Goals as goal

pub loop-tuple-preserved : goal.loop-tuple-preserved
loop-tuple-preserved c =
    let found = sym c.number_at.ensures ∙ c.in-Some.is in
    let item : get_or c.args.tuples.now c.loop-tuple.tuple-index c.tuple-item.result ≡ c.as_slice.result.now = search rules in
    let below = (number_at_tells c.args.arity c.as_slice.result.now c.in-Some.number found).1 in (
      c.loop-tuple.invariant.0,
      rw c.in_ok-push-in-Some.ensures.items (one_more_number c.args.arity c.args.tuples.now c.loop-tuple.tuple-index c.loop-tuple.numbers.items c.in-Some.number c.tuple-item.result (search rules) (ap (number_at c.args.arity) item ∙ found) c.loop-tuple.invariant.1),
      subst (All (λ k. k < radix ^ c.args.arity)) (sym c.in_ok-push-in-Some.ensures.items) (All-push (λ k. k < radix ^ c.args.arity) c.loop-tuple.numbers.items c.in-Some.number c.loop-tuple.invariant.2 below),
    )
