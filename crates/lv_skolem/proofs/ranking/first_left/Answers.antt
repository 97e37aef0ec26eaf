use Rattle.std.proofs.Common.{◌<◌, map, get_or, sym, ◌∙◌, subst, arith, inl, inr, refl}
use Rattle.std.proofs.lemmas.List.{drop_more}
use Rattle.lv_places.specs.declared.skolem.PlaceArg.{PlaceArg}
use Rattle.lv_places.specs.Universes.{count_at}
use Rattle.lv_skolem.specs.Ranking.{IsAmong, AreRanked}
use Rattle.lv_skolem.proofs.ranking.first_left.Goals as goal

pub returns-then-count_of-eq0 : goal.returns-then-count_of-eq0
returns-then-count_of-eq0 c =
    let d : PlaceArg = record { sort = record { 0 = 0 }; var = 0 } in
    let a = get_or c.args.arguments.now c.loop-argument.argument-index d in
    let split = drop_more c.args.arguments.now c.loop-argument.argument-index d c.loop-argument-test.true in (
      c.loop-argument.invariant.among a.sort (subst (λ l. IsAmong a.sort (map (λ (x : PlaceArg). x.sort) l)) (sym split) (inl refl)),
      sym c.count_of.ensures
          ∙ c.if-count_of-eq0.true,
    )

pub loop-argument-preserved : goal.loop-argument-preserved
loop-argument-preserved c =
    let d : PlaceArg = record { sort = record { 0 = 0 }; var = 0 } in
    let a = get_or c.args.arguments.now c.loop-argument.argument-index d in
    let split = drop_more c.args.arguments.now c.loop-argument.argument-index d c.loop-argument-test.true in
    let pos : 0 < count_at c.args.ranks.now a.sort = omega (arith, c.count_of.ensures, c.if-count_of-eq0.false) in
    record {
      ranked = λ h. c.loop-argument.invariant.ranked (subst (λ l. AreRanked c.args.ranks.now (map (λ (x : PlaceArg). x.sort) l)) (sym split) (pos, h));
      among = λ s h. c.loop-argument.invariant.among s (subst (λ l. IsAmong s (map (λ (x : PlaceArg). x.sort) l)) (sym split) (inr h));
    }
