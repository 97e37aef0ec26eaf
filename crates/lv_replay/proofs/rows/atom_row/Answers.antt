use Rattle.std.proofs.Common.{◌<◌, ◌+◌, ◌∷◌, length, drop, map, sym, ap, ◌∙◌, arith}
use Rattle.lv_struct.specs.Tables.{meaning}
use Rattle.lv_replay.specs.Rows.{has_terms}
use Rattle.lv_replay.proofs.RowLaw.{mapped_step, row_step_made}
use Rattle.lv_replay.proofs.rows.atom_row.Goals as goal

pub loop-m-preserved : goal.loop-m-preserved
loop-m-preserved c =
    let i = c.loop-m.m-index in
    let states = c.args.states.now in
    let f = has_terms c.args.sym c.args.terms.now c.args.values.now in
    let below : i < length states = omega (arith, c.loop-m-test.true) in
    let rest = map f (map meaning (drop (i + 1) states)) in
    row_step_made c.loop-m.row.items c.push.new.self.items c.has_terms-holds.result (map f (map meaning (drop i states))) rest (map f (map meaning states))
    c.in_ok-push.ensures.items
    (mapped_step f states i c.m-item.result below c.m-item.is ∙ ap (λ b. b ∷ rest) (sym c.has_terms-holds.ensures))
    c.loop-m.invariant
