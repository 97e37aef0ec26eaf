use Rattle.std.proofs.Common.{◌≡◌, ◌<◌, ◌+◌, ◌∷◌, set, sym, ap, ◌∙◌, subst, arith}
use Rattle.std.proofs.lemmas.Result.{IfOk-weaker}
use Rattle.lv_places.specs.Universes.{count_at}
use Rattle.lv_places.specs.SortGraphs.{IsCycle}
use Rattle.lv_skolem.specs.Ranking.{LeftIs, until}
use Rattle.lv_skolem.proofs.Ranks.{all_zero}
use Rattle.lv_skolem.proofs.Walks.{IsWalk, walk_starts, walk_closes, walk_leads_on, walk_on}
use Rattle.lv_skolem.proofs.cycles.walk_back.Goals as goal

pub loop-step-init : goal.loop-step-init
loop-step-init c =
    let seen = c.in_ok-seen.seen.items in
    let e = c.in_ok-seen.ensures in
    subst (λ p. IsWalk c.args.ranks.now c.args.places.now c.args.sorts seen p c.args.start 0) (sym (c.from_vec-path.ensures ∙ c.new.ensures.items))
    (walk_starts c.args.ranks.now c.args.places.now c.args.sorts seen c.args.start e.0 e.1
    (λ s. all_zero seen s.0 (e.0 ∙ sym e.1)) c.requires.start.0 c.requires.start.1)

pub returns-then-count_of-ne0 : goal.returns-then-count_of-ne0
returns-then-count_of-ne0 c =
    let seen = c.loop-step.seen.items in
    let here = c.loop-step.at in
    let count = c.count_of.ensures ∙ ap (λ l. count_at l here) c.as_slice.ensures.value in
    let marked : 0 < count_at seen here = omega (arith, count, c.if-count_of-ne0.true) in
    let closes = walk_closes c.args.ranks.now c.args.places.now c.args.sorts seen c.loop-step.path here c.loop-step._step c.loop-step.invariant marked in
    IfOk-weaker c.up_to.result (λ l. l ≡ until here c.as_slice-then-count_of-ne0.result.now) (IsCycle c.args.places.now)
    (λ l e. subst (IsCycle c.args.places.now) (sym (e ∙ ap (until here) c.as_slice-then-count_of-ne0.ensures)) closes) c.up_to.ensures

pub returns-in-None : goal.returns-in-None
returns-in-None c =
    absurd (walk_leads_on c.args.ranks.now c.args.places.now c.args.sorts c.loop-step.seen.items c.loop-step.path c.loop-step.at c.loop-step._step c.loop-step.invariant c.requires.ranks
    (subst (LeftIs c.args.ranks.now c.args.places.now c.loop-step.at) c.in-None.is c.left_before.ensures))

pub loop-step-preserved : goal.loop-step-preserved
loop-step-preserved c =
    let seen = c.loop-step.seen.items in
    let here = c.loop-step.at in
    let count = c.count_of.ensures ∙ ap (λ l. count_at l here) c.as_slice.ensures.value in
    let unseen : count_at seen here ≡ 0 = omega (arith, count, c.if-count_of-ne0.false) in
    let left = subst (LeftIs c.args.ranks.now c.args.places.now here) c.in-Some.is c.left_before.ensures in
    subst (λ p. IsWalk c.args.ranks.now c.args.places.now c.args.sorts (set seen here.0 1) p c.in-Some.before (c.loop-step._step + 1))
    (sym (c.in_ok-path.ensures ∙ ap (λ l. here ∷ l) c.as_slice-in-loop-step.ensures))
    (walk_on c.args.ranks.now c.args.places.now c.args.sorts seen c.loop-step.path here c.loop-step._step c.loop-step.invariant c.requires.range unseen c.in-Some.before left.0 left.1)
