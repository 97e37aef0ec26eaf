use Rattle.std.proofs.Common.{map, ap₂, ◌∙◌, rules}
use Rattle.lv_struct.specs.Changes.{put_tuples}
use Rattle.lv_struct.proofs.ChangeLaws.{with_tuples_is_sound}
use Rattle.lv_struct.proofs.structure.Structure.with_relation.Goals as goal

pub invariant_of-result : goal.invariant_of-result
invariant_of-result c =
    with_tuples_is_sound (record { sizes = c.self.inside.sizes; relations = c.self.inside.relations; constants = c.self.inside.constants }) c.args.sym c.args.tuples.now _ _ _
    c.self.invariant (rw (← c.self.view_is) at c.requires.in_range) (search rules) (c.in_ok-relations.ensures ∙ ap₂ (λ ts rs. map (put_tuples c.args.sym ts) rs) (c.in_ok-tuples.ensures ∙ c.in_ok-from_tuples.ensures) c.as_slice-2.ensures) (search rules)
