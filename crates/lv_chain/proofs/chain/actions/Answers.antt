use Rattle.lv_chain.specs.Chain.{go}
use Rattle.lv_chain.proofs.EachLaw.{each_step_from_none}
use Rattle.lv_chain.proofs.chain.actions.Goals as goal

pub loop-i-preserved : goal.loop-i-preserved
loop-i-preserved c =
    each_step_from_none go c.loop-i.i c.loop-i.actions.items c.push.new.self.items c.in_ok-step.field-0 c.loop-i.invariant c.in_ok-step.ensures c.in_ok-push.ensures.items
