use Rattle.std.proofs.Common.{◌≡◌, ◌<◌, ◌+◌, length, get_or, sym, subst}
use Rattle.lv_model.specs.Quotients.{AreRows}
use Rattle.lv_model.proofs.Offsets.{row_pushed}
use Rattle.lv_model.proofs.rows.rows_of.Goals as goal

pub loop-shape-preserved : goal.loop-shape-preserved
loop-shape-preserved c =
    let st = c.args.st.now in
    let xs = st.sk.now.relations in
    let k = c.loop-shape.shape-index in
    let x = c.shape-item.result in
    let l : k < length xs = subst (λ ys. k < length ys) c.as_slice-shape-items.ensures c.loop-shape-test.true in
    let e : get_or xs k x ≡ x = subst (λ ys. get_or ys k x ≡ x) c.as_slice-shape-items.ensures (sym c.shape-item.is) in
    subst (AreRows st c.args.classes.now (k + 1) xs) (sym c.in_ok-push.ensures.items)
    (row_pushed st c.args.classes.now xs c.loop-shape.all.items k x c.in_ok-row_of.field-0 l e c.in_ok-row_of.ensures c.loop-shape.invariant)
