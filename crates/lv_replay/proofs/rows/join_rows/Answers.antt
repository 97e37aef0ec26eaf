use Rattle.std.proofs.Common.{◌≤◌, min, ◌++◌, length, sym, ap, ◌∙◌, arith}
use Rattle.std.proofs.lemmas.List.{append-nil}
use Rattle.lv_replay.proofs.RowLaw.{joined_end}
use Rattle.lv_replay.proofs.rows.join_rows.Goals as goal

pub returns : goal.returns
returns c =
    let end : min (length c.args.a.now) (length c.args.b.now) ≤ c.loop-i.i = omega (arith, c.least-i-end.ensures, c.loop-i-test.false) in
    c.from_vec.ensures ∙ (sym (append-nil c.loop-i.row.items) ∙ (ap (λ xs. c.loop-i.row.items ++ xs) (sym (joined_end c.args.how c.args.a.now c.args.b.now c.loop-i.i end)) ∙ c.loop-i.invariant))
