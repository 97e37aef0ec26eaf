use Rattle.std.proofs.Common.{◌<◌, ◌^◌, sym, ap, subst, ◌∙◌}
use Rattle.lv_formula.specs.Measures.{depth_of}
use Rattle.lv_system.specs.Step.{action_at}
use Rattle.lv_replay.proofs.PlayLaw.{shallow_guard}
use Rattle.lv_replay.proofs.playing.guard_of.Goals as goal

pub returns-clause-shallow : goal.returns-clause-shallow
returns-clause-shallow c = subst (λ a. depth_of a.guard < 2 ^ 32) (sym (c.action_of.ensures ∙ ap (λ p. action_at p c.args.action) c.parts.ensures.value))
    (shallow_guard c.args.system.now c.args.action c.parts.ensures.fitting c.requires)
