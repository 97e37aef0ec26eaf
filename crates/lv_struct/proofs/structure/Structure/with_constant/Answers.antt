use Rattle.std.proofs.Common.{rules}
use Rattle.lv_struct.proofs.ChangeLaws.{with_element_is_sound}
use Rattle.lv_struct.proofs.structure.Structure.with_constant.Goals as goal

pub invariant_of-result : goal.invariant_of-result
invariant_of-result c =
    with_element_is_sound (record { sizes = c.self.inside.sizes; relations = c.self.inside.relations; constants = c.self.inside.constants }) c.args.sym c.args.element _ _ _
    c.self.invariant (rw (← c.self.view_is) at c.requires.in_range) (search rules) (search rules) (search rules)
