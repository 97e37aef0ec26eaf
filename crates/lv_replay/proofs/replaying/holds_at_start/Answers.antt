use Rattle.std.proofs.Common.{ap, ap₂, ◌∙◌, get_or, map, length, false, []}
use Rattle.lv_struct.specs.Tables.{meaning}
use Rattle.lv_replay.specs.Rows.{row_of}
use Rattle.lv_replay.proofs.replaying.holds_at_start.Goals as goal

pub returns : goal.returns
returns c = c.first_of.ensures
    ∙ (ap (λ r. get_or r 0 false) (c.as_slice.ensures ∙ c.in_ok-truths.ensures)
    ∙ ap₂ (λ n p. get_or (row_of (map meaning c.args.states.now) n p.property []) 0 false) (ap length c.as_slice-stem.ensures) c.parts.ensures.value)
