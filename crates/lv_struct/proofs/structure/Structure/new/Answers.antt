use Rattle.std.proofs.Common.{rules}
use Rattle.lv_struct.proofs.ChangeLaws.{empty_is_sound}
use Rattle.lv_struct.proofs.structure.Structure.new.Goals as goal

pub invariant_of-result : goal.invariant_of-result
invariant_of-result c = empty_is_sound c.args.voc.now c.args.sizes.now _ _ _ c.requires.sound c.requires.elements
    (search rules) (search rules) (search rules)
