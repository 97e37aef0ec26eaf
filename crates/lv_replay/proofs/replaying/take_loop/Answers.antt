use Rattle.std.proofs.Common.{◌<◌, ◌^◌, sym, ap, subst, ◌∙◌, length}
use Rattle.lv_struct.specs.Tables.{IsSound}
use Rattle.lv_replay.specs.Answers.{IsAnswer}
use Rattle.lv_replay.specs.Play.{IsPlayed, IsWalked, Walked}
use Rattle.lv_replay.specs.declared.answer.ReplayAnswer.TheVariants.{GuardFails}
use Rattle.lv_replay.proofs.ReplayLaw.{played, turn_below, turn_refused, walked_none, walked_some}
use Rattle.lv_replay.proofs.replaying.take_loop.Goals as goal

pub compare_ends-requires-clause-played : goal.compare_ends-requires-clause-played
compare_ends-requires-clause-played c =
    let w : Walked c.args.system.now c.args.first c.args.lasso.now.turn c.args.states.items c.walk.new.states.items c.in-Some.last =
    walked_some c.args.system.now c.args.first c.args.lasso.now.turn c.args.states.items c.walk.new.states.items c.in_ok-last.field-0 c.in-Some.last
    (subst (λ ss. IsWalked c.args.system.now c.args.first ss c.args.states.items c.walk.new.states.items c.in_ok-last.field-0) c.as_slice.ensures c.in_ok-last.ensures.walked) c.in-Some.is in
    subst (λ kept. IsPlayed c.args.system.now c.args.lasso.now kept c.in-Some.last c.as_slice-in-Some.result.now) (sym c.in_ok-kept.ensures.value)
    (subst (λ ss. IsPlayed c.args.system.now c.args.lasso.now c.args.first c.in-Some.last ss) (sym c.as_slice-in-Some.ensures.value)
    (played c.args.system.now c.args.lasso.now c.args.first c.args.states.items c.requires.walked c.walk.new.states.items c.in-Some.last c.requires.begins w c.requires.sound c.in_ok-kept.ensures.sound (subst IsSound c.last.view_is c.last.invariant)))

pub count-requires : goal.count-requires
count-requires c = subst (λ ss. length ss < 2 ^ 32) (sym c.as_slice-in-None.ensures.value)
    (turn_below c.args.system.now c.args.lasso.now c.args.first c.args.states.items c.requires.walked (length c.walk.new.states.items) c.requires.fits
    (walked_none c.args.system.now c.args.first c.args.lasso.now.turn c.args.states.items c.walk.new.states.items c.in_ok-last.field-0
    (subst (λ ss. IsWalked c.args.system.now c.args.first ss c.args.states.items c.walk.new.states.items c.in_ok-last.field-0) c.as_slice.ensures c.in_ok-last.ensures.walked) c.in-None.is))

pub returns : goal.returns
returns c = subst (λ n. IsAnswer c.args.system.now c.args.lasso.now (GuardFails n)) (sym (c.count.ensures ∙ ap length c.as_slice-in-None.ensures.value))
    (turn_refused c.args.system.now c.args.lasso.now c.args.first c.args.states.items c.requires.walked c.requires.fits c.requires.begins (length c.walk.new.states.items)
    (walked_none c.args.system.now c.args.first c.args.lasso.now.turn c.args.states.items c.walk.new.states.items c.in_ok-last.field-0
    (subst (λ ss. IsWalked c.args.system.now c.args.first ss c.args.states.items c.walk.new.states.items c.in_ok-last.field-0) c.as_slice.ensures c.in_ok-last.ensures.walked) c.in-None.is))
