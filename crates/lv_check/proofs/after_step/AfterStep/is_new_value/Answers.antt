use Rattle.std.proofs.Common.{◌<◌, length, sym, ap, ◌∙◌, arith}
use Rattle.lv_formula.proofs.Below.{any_below-holds}
use Rattle.lv_system.specs.declared.parts.Parts.{Parts}
use Rattle.lv_check.proofs.after_step.AfterStep.is_new_value.Goals as goal

pub returns-then-becomes : goal.returns-then-becomes
returns-then-becomes c =
    let below : c.loop-c.c < length c.args.self.now.system.now.symbols = omega (arith, ap length c.as_slice.ensures, ap (λ (p : Parts). length p.symbols) c.parts.ensures.value) in
    sym (any_below-holds _ _ c.loop-c.c below (sym c.becomes.ensures ∙ c.if-becomes.true))
