use Rattle.std.proofs.Common.{subst, None}
use Rattle.lv_skolem.specs.Ranking.{UnrankedIs}
use Rattle.lv_skolem.proofs.Walks.{all_ranked}
use Rattle.lv_skolem.proofs.cycles.cycle_of.Goals as goal

pub returns-in-None : goal.returns-in-None
returns-in-None c =
    let unranked = subst (UnrankedIs c.as_slice.result.now c.args.sorts) c.in-None.is c.first_unranked.ensures in
    all_ranked c.in_ok-ranks.ranks c.args.sorts c.args.places.now c.in_ok-ranks.ensures c.requires
    (subst (λ l. UnrankedIs l c.args.sorts None) c.as_slice.ensures unranked)
