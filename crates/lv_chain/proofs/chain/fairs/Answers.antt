use Rattle.std.proofs.Common.{[], codes, ap, ap₂, ◌∙◌}
use Rattle.lv_chain.specs.Chain.{moved, numbered_name}
use Rattle.lv_chain.proofs.EachLaw.{each_step_from_none}
use Rattle.lv_chain.proofs.chain.fairs.Goals as goal

pub loop-i-preserved : goal.loop-i-preserved
loop-i-preserved c =
    each_step_from_none moved c.loop-i.i c.loop-i.fairs.items c.push.new.self.items _ c.loop-i.invariant
    (ap₂ (λ name params. record { name = name; params = params; condition = c.in_ok-formula.field-0 }) c.in_ok-numbered.ensures (c.from_vec.ensures ∙ c.new.ensures.items)
    ∙ ap (λ f. record { name = numbered_name (codes "moved") c.loop-i.i; params = []; condition = f }) c.in_ok-formula.ensures)
    c.in_ok-push.ensures.items
