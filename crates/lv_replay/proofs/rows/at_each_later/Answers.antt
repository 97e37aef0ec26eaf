use Rattle.std.proofs.Common.{◌≡◌, ◌<◌, [], ◌∷◌, ◌++◌, ◌+◌, leb, min, length, drop, sym, ap, ◌∙◌, arith}
use Rattle.lv_replay.specs.Rows.{are_true, later, later_from}
use Rattle.lv_replay.proofs.RowLaw.{later_more, row_step_made}
use Rattle.lv_replay.proofs.rows.at_each_later.Goals as goal

pub loop-i-preserved : goal.loop-i-preserved
loop-i-preserved c =
    let i = c.loop-i.i in
    let row = c.args.values.now in
    let below : i < length row = omega (arith, c.loop-i-test.true) in
    let k = min i c.args.stem in
    let is : leb c.true_from-from.result k ≡ are_true (drop k row) = sym (c.true_from-from.ensures k) in
    row_step_made c.loop-i.row.items c.push.new.self.items (leb c.true_from-from.result k) (later_from c.args.stem row i (drop i row)) (later_from c.args.stem row (i + 1) (drop (i + 1) row)) (later c.args.stem row)
    (c.in_ok-push.ensures.items ∙ ap (λ n. c.loop-i.row.items ++ leb c.true_from-from.result n ∷ []) c.least.ensures)
    (later_more c.args.stem row i below ∙ ap (λ b. b ∷ later_from c.args.stem row (i + 1) (drop (i + 1) row)) (sym is))
    c.loop-i.invariant
