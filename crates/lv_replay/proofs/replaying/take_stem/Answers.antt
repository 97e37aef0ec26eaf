use Rattle.std.proofs.Common.{◌≡◌, ◌<◌, ◌^◌, Some, [], sym, ap, subst, ◌∙◌, length, arith}
use Rattle.lv_struct.specs.Tables.{meaning}
use Rattle.lv_replay.specs.Answers.{IsAnswer}
use Rattle.lv_replay.specs.Play.{IsWalked, first_refused}
use Rattle.lv_replay.specs.declared.answer.ReplayAnswer.TheVariants.{GuardFails}
use Rattle.lv_replay.proofs.ReplayLaw.{refused_below, stem_refused, walked_none}
use Rattle.lv_replay.proofs.replaying.take_stem.Goals as goal

pub count-requires : goal.count-requires
count-requires c =
    let w : IsWalked c.args.system.now c.args.lasso.now.start c.args.lasso.now.stem [] c.walk.new.states.items c.in_ok-first.field-0 =
    subst (λ start. IsWalked c.args.system.now start c.args.lasso.now.stem [] c.walk.new.states.items c.in_ok-first.field-0) c.in_ok-start.ensures.value
    (subst (λ ss. IsWalked c.args.system.now c.in_ok-start.start ss [] c.walk.new.states.items c.in_ok-first.field-0) c.as_slice.ensures
    (subst (λ before. IsWalked c.args.system.now c.in_ok-start.start c.as_slice.result.now before c.walk.new.states.items c.in_ok-first.field-0) c.new-states.ensures.items c.in_ok-first.ensures.walked)) in
    let h : first_refused c.args.system.now (meaning c.args.lasso.now.start) 0 c.args.lasso.now.stem ≡ Some (length c.walk.new.states.items) =
    walked_none c.args.system.now c.args.lasso.now.start c.args.lasso.now.stem [] c.walk.new.states.items c.in_ok-first.field-0 w c.in-None.is in
    let a = refused_below c.args.system.now (meaning c.args.lasso.now.start) 0 c.args.lasso.now.stem (length c.walk.new.states.items) h in
    let b = c.requires.fits.few in
    subst (λ ss. length ss < 2 ^ 32) (sym c.as_slice-in-None.ensures.value) (omega (arith, a, b))

pub returns-in-None : goal.returns-in-None
returns-in-None c =
    let w : IsWalked c.args.system.now c.args.lasso.now.start c.args.lasso.now.stem [] c.walk.new.states.items c.in_ok-first.field-0 =
    subst (λ start. IsWalked c.args.system.now start c.args.lasso.now.stem [] c.walk.new.states.items c.in_ok-first.field-0) c.in_ok-start.ensures.value
    (subst (λ ss. IsWalked c.args.system.now c.in_ok-start.start ss [] c.walk.new.states.items c.in_ok-first.field-0) c.as_slice.ensures
    (subst (λ before. IsWalked c.args.system.now c.in_ok-start.start c.as_slice.result.now before c.walk.new.states.items c.in_ok-first.field-0) c.new-states.ensures.items c.in_ok-first.ensures.walked)) in
    let h : first_refused c.args.system.now (meaning c.args.lasso.now.start) 0 c.args.lasso.now.stem ≡ Some (length c.walk.new.states.items) =
    walked_none c.args.system.now c.args.lasso.now.start c.args.lasso.now.stem [] c.walk.new.states.items c.in_ok-first.field-0 w c.in-None.is in
    subst (λ n. IsAnswer c.args.system.now c.args.lasso.now (GuardFails n)) (sym (c.count.ensures ∙ ap length c.as_slice-in-None.ensures.value))
    (stem_refused c.args.system.now c.args.lasso.now c.requires.fits c.requires.begins (length c.walk.new.states.items) h)
