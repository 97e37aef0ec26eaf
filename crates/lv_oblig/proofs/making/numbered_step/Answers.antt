use Rattle.std.proofs.Common.{◌≡◌, IfOk, subst}
use Rattle.lv_system.specs.Step.{action_at}
use Rattle.lv_labels.specs.Problem.{problem_of}
use Rattle.lv_oblig.specs.Sentences.{step_sentences}
use Rattle.lv_oblig.proofs.making.numbered_step.Goals as goal

pub returns : goal.returns
returns c = subst (λ p. IfOk c.step.result (λ s. s ≡ step_sentences (problem_of p) (action_at p c.args.action) c.args.mv c.args.invariant)) c.parts-parts.ensures.value
    (subst (λ a. IfOk c.step.result (λ s. s ≡ step_sentences (problem_of c.parts-parts.result.now) a c.args.mv c.args.invariant)) c.action_at.ensures c.step.ensures)
