use Rattle.std.proofs.Common.{ap, ◌∙◌, subst, arith}
use Rattle.lv_places.specs.Universes.{count_at}
use Rattle.lv_places.specs.Sizes.{size_of}
use Rattle.lv_skolem.specs.Counting.{capped, CountsAre}
use Rattle.lv_skolem.proofs.Limits.{none_counted, size_none}
use Rattle.lv_skolem.proofs.sentences.size_within.Goals as goal

pub returns-in-None : goal.returns-in-None
returns-in-None c = none_counted c.args.sk.now (subst (CountsAre c.args.sk.now) c.in-None.is c.in_ok-counts_of.ensures)

pub returns : goal.returns
returns c =
    let counted = subst (CountsAre c.args.sk.now) c.in-Some.is c.in_ok-counts_of.ensures in
    let size = c.in_ok-size-in-Some.ensures ∙ ap (λ l. capped (size_of c.args.sk.now (count_at l))) c.as_slice.ensures in
    size_none c.args.sk.now (count_at c.in-Some.counts) c.in_ok-size-in-Some.size counted.2 size (omega (arith, c.if-size-le-LIMIT.false))
