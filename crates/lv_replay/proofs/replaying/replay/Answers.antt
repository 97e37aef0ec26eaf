use Rattle.std.proofs.Common.{◌≡◌, ◌<◌, ◌^◌, true, [], sym, ap, subst, ◌∙◌}
use Rattle.lv_formula.specs.Measures.{depth_of_all}
use Rattle.lv_formula.specs.Truth.{all_true_in}
use Rattle.lv_struct.specs.Tables.{meaning}
use Rattle.lv_eval.specs.FirstFalse.{IsFirstFalse, TellsFirstFalse}
use Rattle.lv_eval.proofs.FirstFalseLaws.{not_all_true}
use Rattle.lv_replay.proofs.ReplayLaw.{axioms_shallow, inits_shallow}
use Rattle.lv_replay.proofs.replaying.replay.Goals as goal

pub first_false-requires-clause-shallow : goal.first_false-requires-clause-shallow
first_false-requires-clause-shallow c = subst (λ fs. depth_of_all fs < 2 ^ 32) (sym (c.as_slice.ensures ∙ ap (λ p. p.axioms) c.parts-parts.ensures.value)) (axioms_shallow c.args.system.now c.parts-parts.ensures.fitting)

pub first_false-requires-in-None-clause-shallow : goal.first_false-requires-in-None-clause-shallow
first_false-requires-in-None-clause-shallow c = subst (λ fs. depth_of_all fs < 2 ^ 32) (sym (c.as_slice-in-None.ensures ∙ ap (λ p. p.inits) c.parts-parts.ensures.value)) (inits_shallow c.args.system.now c.parts-parts.ensures.fitting)

pub take_stem-requires-clause-begins : goal.take_stem-requires-clause-begins
take_stem-requires-clause-begins c = record {
  axioms = subst (λ fs. all_true_in (meaning c.args.lasso.now.start) fs [] ≡ true) (c.as_slice.ensures ∙ ap (λ p. p.axioms) c.parts-parts.ensures.value)
      (subst (TellsFirstFalse (meaning c.args.lasso.now.start) c.as_slice.result.now) c.in-None.is c.in_ok-number.ensures);
  inits = subst (λ fs. all_true_in (meaning c.args.lasso.now.start) fs [] ≡ true) (c.as_slice-in-None.ensures ∙ ap (λ p. p.inits) c.parts-parts.ensures.value)
      (subst (TellsFirstFalse (meaning c.args.lasso.now.start) c.as_slice-in-None.result.now) c.in-None-2.is c.in_ok-first_false-in-None.ensures);
}

pub returns-in-Some : goal.returns-in-Some
returns-in-Some c = subst (λ fs. IsFirstFalse (meaning c.args.lasso.now.start) fs c.in-Some.number) (c.as_slice.ensures ∙ ap (λ p. p.axioms) c.parts-parts.ensures.value)
    (subst (TellsFirstFalse (meaning c.args.lasso.now.start) c.as_slice.result.now) c.in-Some.is c.in_ok-number.ensures)

pub returns-in-Some-2 : goal.returns-in-Some-2
returns-in-Some-2 c = (
  subst (λ fs. all_true_in (meaning c.args.lasso.now.start) fs [] ≡ true) (c.as_slice.ensures ∙ ap (λ p. p.axioms) c.parts-parts.ensures.value)
      (subst (TellsFirstFalse (meaning c.args.lasso.now.start) c.as_slice.result.now) c.in-None.is c.in_ok-number.ensures),
  not_all_true (meaning c.args.lasso.now.start) c.args.system.now.inits c.in-Some-2.field-0
      (subst (λ fs. IsFirstFalse (meaning c.args.lasso.now.start) fs c.in-Some-2.field-0) (c.as_slice-in-None.ensures ∙ ap (λ p. p.inits) c.parts-parts.ensures.value)
      (subst (TellsFirstFalse (meaning c.args.lasso.now.start) c.as_slice-in-None.result.now) c.in-Some-2.is c.in_ok-first_false-in-None.ensures)),
)
