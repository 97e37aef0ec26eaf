use Rattle.std.proofs.Common.{◌≡◌, IfOk, subst}
use Rattle.lv_system.specs.Step as step
use Rattle.lv_labels.specs.Problem.{problem_of}
use Rattle.lv_monitor.specs.Updates as updates
use Rattle.lv_monitor.proofs.updating.move_updates.Goals as goal

pub returns : goal.returns
returns c = subst (λ p. IfOk c.moves_of.result (λ us. us ≡ updates.move_updates_of (problem_of p) (step.action_at p c.args.action) c.args.mv)) c.parts-parts.ensures.value
    (subst (λ a. IfOk c.moves_of.result (λ us. us ≡ updates.move_updates_of (problem_of c.parts-parts.result.now) a c.args.mv)) c.action_at.ensures c.moves_of.ensures)
