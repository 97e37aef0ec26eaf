use Rattle.std.proofs.Common.{◌≤◌, ◌-◌, length, sym, ◌∙◌, arith}
use Rattle.lv_oblig.proofs.Counting.{rest_of}
use Rattle.lv_oblig.proofs.numbering.+step_at.Goals as goal

pub returns-else-i-count-3-clause-value : goal.returns-else-i-count-3-clause-value
returns-else-i-count-3-clause-value t c =
    let first : length c.args.invariants.now ≤ c.args.i = omega (arith, c.if-i-count.false) in
    let second : length c.args.invariants.now ≤ c.args.i - length c.args.invariants.now = omega (arith, c.if-i-count-2.false) in
    let third : length c.args.invariants.now ≤ c.args.i - length c.args.invariants.now - length c.args.invariants.now = omega (arith, c.if-i-count-3.false) in
    c.step_at.ensures.value ∙ sym (rest_of c.args.invariants.now c.args.n c.args.actions.now c.args.i c.in-len1-up.len_at_least first second third)
