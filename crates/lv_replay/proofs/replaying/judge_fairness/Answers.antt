use Rattle.std.proofs.Common.{◌<◌, ◌^◌, sym, ap, ap₂, subst, ◌∙◌, length, drop, map, arith}
use Rattle.lv_formula.specs.Measures.{depth_of_all}
use Rattle.lv_struct.specs.Tables.{meaning, size_in}
use Rattle.lv_replay.specs.Fairness.{condition_of, first_unmet}
use Rattle.lv_replay.proofs.JudgeLaw.{fair, unfair}
use Rattle.lv_replay.proofs.ReplayLaw.{fairs_shallow, states_long}
use Rattle.lv_replay.proofs.replaying.judge_fairness.Goals as goal

pub from-turn-requires : goal.from-turn-requires
from-turn-requires c =
    let a = states_long c.args.system.now c.args.lasso.now c.args.states.now c.requires.states in
    let stem = ap length c.as_slice-stem.ensures in
    omega (arith, a, stem)

pub first_unmet-requires-clause-shallow : goal.first_unmet-requires-clause-shallow
first_unmet-requires-clause-shallow c = subst (λ fs. depth_of_all (map condition_of fs) < 2 ^ 32) (sym (c.as_slice-fairs.ensures ∙ ap (λ p. p.fairs) c.parts.ensures.value))
    (fairs_shallow c.args.system.now c.parts.ensures.fitting)

pub judge_property-requires-clause-fair : goal.judge_property-requires-clause-fair
judge_property-requires-clause-fair c = fair c.args.system.now c.args.lasso.now c.requires.fits c.args.states.now c.requires.states
    (ap₂ (λ ts cs. first_unmet (size_in c.args.lasso.now.start) (map meaning ts) 0 cs)
    (sym (c.from-turn.ensures ∙ ap (λ xs. drop (length xs) c.args.states.now) c.as_slice-stem.ensures)) (sym (c.as_slice-fairs.ensures ∙ ap (λ p. p.fairs) c.parts.ensures.value))
    ∙ (sym c.in_ok-fair.ensures ∙ c.in-None.is))

pub returns-in-Some : goal.returns-in-Some
returns-in-Some c = unfair c.args.system.now c.args.lasso.now c.requires.fits c.args.states.now c.in-Some.fair c.requires.states c.requires.run
    (ap₂ (λ ts cs. first_unmet (size_in c.args.lasso.now.start) (map meaning ts) 0 cs)
    (sym (c.from-turn.ensures ∙ ap (λ xs. drop (length xs) c.args.states.now) c.as_slice-stem.ensures)) (sym (c.as_slice-fairs.ensures ∙ ap (λ p. p.fairs) c.parts.ensures.value))
    ∙ (sym c.in_ok-fair.ensures ∙ c.in-Some.is))
