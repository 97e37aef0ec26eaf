use Rattle.std.proofs.Common.{◌<◌, arith}
use Rattle.lv_chain.specs.Formulas.{of_pairs}
use Rattle.lv_chain.proofs.EachLaw.{pairs_step}
use Rattle.lv_chain.proofs.formulas.each_pair.Goals as goal

pub loop-place-preserved : goal.loop-place-preserved
loop-place-preserved c =
    let l = c.loop-place in
    let below : l.place < c.args.end = omega (arith, c.loop-place-test.true) in
    pairs_step c.args.kind l.place c.args.end l.formulas.items c.push_later.new.formulas.items (of_pairs c.args.kind 0 c.args.end) below l.invariant c.in_ok-push_later.ensures
