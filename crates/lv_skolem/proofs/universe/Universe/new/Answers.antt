use Rattle.std.proofs.Common.{sym, ap, ◌∙◌, subst}
use Rattle.lv_places.specs.Universes.{IsUniverse, terms_to, count_at}
use Rattle.lv_places.proofs.Universes.{universe_is}
use Rattle.lv_skolem.specs.Counting.{CountsAre}
use Rattle.lv_skolem.proofs.Limits.{within_counted}
use Rattle.lv_skolem.proofs.universe.Universe.new.Goals as goal

pub returns : goal.returns
returns c =
    let sk = c.args.sk.now in
    let counted = subst (CountsAre sk) c.in-Some.is c.in_ok-counts.ensures in
    let terms = c.in_ok-terms-in-Some.ensures ∙ ap (λ l. terms_to sk (count_at l) sk.sorts) c.as_slice.ensures in
    subst (IsUniverse sk) (sym terms) (universe_is sk c.in-Some.counts counted.0 counted.1)

pub unreachable-requires : goal.unreachable-requires
unreachable-requires c = within_counted c.args.sk.now c.requires (subst (CountsAre c.args.sk.now) c.in-None.is c.in_ok-counts.ensures)
