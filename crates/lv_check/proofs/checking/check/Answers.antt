use Rattle.std.proofs.Common.{◌≡◌, [], true, sym, ap, subst, ◌∙◌}
use Rattle.lv_formula.specs.declared.vocabulary.Sentences.{Sentences}
use Rattle.lv_formula.specs.Truth.{all_true_in}
use Rattle.lv_struct.specs.Tables.{meaning}
use Rattle.lv_eval.specs.FirstFalse.{TellsFirstFalse}
use Rattle.lv_labels.specs.declared.which.Which.{Which}
use Rattle.lv_labels.specs.Problem.{problem_of}
use Rattle.lv_oblig.specs.Numbers.{IsThere, obligation_at}
use Rattle.lv_oblig.specs.Sentences.{AreTrueTo, hypotheses_of}
use Rattle.lv_check.specs.Answers.{concludes}
use Rattle.lv_check.proofs.Conclusions.{breaks_so}
use Rattle.lv_check.proofs.checking.check.Goals as goal

pub returns : goal.returns
returns c =
    let p = c.args.system.now in
    let q = problem_of p in
    let which = obligation_at p c.args.i in
    let m = meaning c.args.m.now in
    let all : c.as_slice.result.now ≡ hypotheses_of q which = c.as_slice.ensures ∙ ap (λ (s : Sentences). s.hypotheses) c.in_ok-s.ensures.list in
    let true_all : all_true_in m c.as_slice.result.now [] ≡ true = subst (TellsFirstFalse m c.as_slice.result.now) c.in_default.is c.in_ok-number.ensures in
    breaks_so p c.parts-parts.ensures.fitting c.requires.invariants c.args.m.now c.size-size.ensures.sound which
    (subst (IsThere q) c.which_obligation-which.ensures.value c.which_obligation-which.ensures.there)
    c.requires.vocabulary
    (subst (AreTrueTo q which) c.in_ok-s.ensures.list (c.in_ok-s.ensures.truth c.requires.invariants))
    (ap (λ fs. all_true_in m fs []) (sym all) ∙ true_all)
    (ap (λ (w : Which). concludes q w m) (sym c.which_obligation-which.ensures.value) ∙ sym c.in_ok-concludes.ensures ∙ c.if-branch.false)
