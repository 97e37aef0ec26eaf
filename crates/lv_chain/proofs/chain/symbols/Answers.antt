use Rattle.std.proofs.Common.{ap₂, ◌∙◌, false}
use Rattle.lv_system.specs.declared.parts.Shape.TheVariants.{Relation}
use Rattle.lv_chain.specs.Chain.{place}
use Rattle.lv_chain.proofs.EachLaw.{each_step_from_none}
use Rattle.lv_chain.proofs.chain.symbols.Goals as goal

pub loop-i-preserved : goal.loop-i-preserved
loop-i-preserved c =
    each_step_from_none place c.loop-i.i c.loop-i.symbols.items c.push.new.self.items _ c.loop-i.invariant
    (ap₂ (λ name params. record { name = name; shape = Relation params; fixed = false }) c.in_ok-numbered.ensures (c.from_vec.ensures ∙ c.new.ensures.items))
    c.in_ok-push.ensures.items
