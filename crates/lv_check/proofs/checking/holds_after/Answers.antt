use Rattle.std.proofs.Common.{◌≡◌, Bool, [], ap, ◌∙◌}
use Rattle.std.proofs.lemmas.Result.{IfOk-weaker}
use Rattle.lv_formula.specs.Truth.{truth_in}
use Rattle.lv_struct.specs.Tables.{meaning}
use Rattle.lv_system.specs.declared.parts.Parts.{Parts}
use Rattle.lv_labels.specs.declared.which.Which.TheVariants.{Step}
use Rattle.lv_labels.specs.Obligations.{invariant_at}
use Rattle.lv_labels.specs.Problem.{problem_of}
use Rattle.lv_check.specs.Answers.{concludes}
use Rattle.lv_check.proofs.Conclusions.{holds_so}
use Rattle.lv_check.proofs.checking.holds_after.Goals as goal

pub returns : goal.returns
returns c =
    let p = c.args.system.now in
    let i = c.args.invariant in
    IfOk-weaker c.invariant_holds.result (λ (b : Bool). b ≡ truth_in (meaning c.in_ok-after.after) (invariant_at c.parts-parts.result.now i) [])
    (λ (b : Bool). b ≡ concludes (problem_of p) (Step c.args.action c.args.mv i) (meaning c.args.m.now))
    (λ b is. is ∙ ap (λ (p : Parts). truth_in (meaning c.in_ok-after.after) (invariant_at p i) []) c.parts-parts.ensures.value
    ∙ holds_so p c.parts-parts.ensures.fitting c.requires.invariants c.args.m.now c.requires.sound c.args.action c.requires.action c.requires.vocabulary c.args.mv c.in_ok-after.after c.in_ok-after.ensures i)
    c.invariant_holds.ensures
