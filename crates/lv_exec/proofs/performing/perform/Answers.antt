use Rattle.std.proofs.Common.{rules}
use Rattle.lv_exec.proofs.PerformLaw.{performed_after}
use Rattle.lv_exec.proofs.performing.perform.Goals as goal

pub returns-clause-performed : goal.returns-clause-performed
returns-clause-performed c =
    performed_after c.args.system.now c.args.action c.args.elements.now c.args.m.now c.in_ok-set_each.field-0
    c.parts-parts.ensures.fitting c.requires.action c.requires.symbols (search rules)
