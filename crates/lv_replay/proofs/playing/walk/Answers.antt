use Rattle.std.proofs.Common.{◌<◌, ◌+◌, length, drop, sym, ap, ◌∙◌, arith}
use Rattle.lv_struct.specs.Tables.{meaning}
use Rattle.lv_system.specs.Step.{action_at, performed}
use Rattle.lv_replay.proofs.PlayLaw.{next_step, walk_on, walk_stops}
use Rattle.lv_replay.proofs.playing.walk.Goals as goal

pub returns-then-not-branch : goal.returns-then-not-branch
returns-then-not-branch c =
    let i = c.loop-step.step-index in
    let steps = c.args.steps.now in
    let below : i < length steps = omega (arith, c.loop-step-test.true) in
    record {
      walked = walk_stops c.args.system.now c.args.start steps c.args.states.now.items c.loop-step.m c.loop-step.states.items c.step-item.result (drop (i + 1) steps)
          (next_step c.args.system.now c.args.start steps c.args.states.now.items c.loop-step.m c.loop-step.states.items i c.step-item.result c.loop-step.invariant below c.step-item.is)
          (sym c.in_ok-is_guarded.ensures ∙ c.if-not-branch.true);
    }

pub loop-step-preserved : goal.loop-step-preserved
loop-step-preserved c =
    let i = c.loop-step.step-index in
    let steps = c.args.steps.now in
    let below : i < length steps = omega (arith, c.loop-step-test.true) in
    walk_on c.args.system.now c.args.start steps c.args.states.now.items c.loop-step.m c.in_ok-next.next c.loop-step.states.items c.push.new.self.items c.step-item.result (drop (i + 1) steps)
    (next_step c.args.system.now c.args.start steps c.args.states.now.items c.loop-step.m c.loop-step.states.items i c.step-item.result c.loop-step.invariant below c.step-item.is)
    (sym c.in_ok-is_guarded.ensures ∙ c.if-not-branch.false)
    (c.in_ok-next.ensures.performed ∙ ap (λ es. performed c.args.system.now (action_at c.args.system.now c.step-item.result.action) es (meaning c.loop-step.m)) c.as_slice.ensures) c.in_ok-next.ensures.symbols c.in_ok-push.ensures.items
