use Rattle.std.proofs.Common.{◌≡◌, Bool, [], ap, ◌∙◌}
use Rattle.std.proofs.lemmas.Result.{IfOk-weaker}
use Rattle.lv_formula.specs.declared.formula.Formula.{Formula}
use Rattle.lv_formula.specs.Truth.{truth_in}
use Rattle.lv_struct.specs.Tables.{meaning}
use Rattle.lv_labels.specs.Problem.{problem_of}
use Rattle.lv_check.specs.Answers.{concludes}
use Rattle.lv_check.proofs.Conclusions.{conclusion_says}
use Rattle.lv_check.proofs.checking.concludes.Goals as goal

pub returns-in-Start : goal.returns-in-Start
returns-in-Start c =
    let p = c.args.system.now in
    let m = meaning c.args.m.now in
    IfOk-weaker c.is_true_with.result (λ (b : Bool). b ≡ truth_in m c.args.sentence.now []) (λ (b : Bool). b ≡ concludes (problem_of p) c.args.which m)
    (λ b is. is ∙ ap (λ (f : Formula). truth_in m f []) c.requires.sentence
    ∙ conclusion_says p c.parts-parts.ensures.fitting c.requires.invariants c.args.m.now c.requires.sound c.args.which c.requires.there c.requires.vocabulary)
    c.is_true_with.ensures
