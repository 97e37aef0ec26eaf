use Rattle.std.proofs.Common.{◌≤◌, ◌+◌, arith}
use Rattle.lv_chain.specs.Formulas.{of_pair}
use Rattle.lv_chain.proofs.EachLaw.{each_step}
use Rattle.lv_chain.proofs.formulas.push_later.Goals as goal

pub loop-later-preserved : goal.loop-later-preserved
loop-later-preserved c =
    let l = c.loop-later in
    let first = c.args.place + 1 in
    let later : first ≤ l.later + 1 = let before = l.invariant.later in omega (arith, before) in
    record {
      put = each_step (of_pair c.args.kind c.args.place) first l.later c.args.formulas.now.items l.formulas.items c.push.new.self.items c.in_ok-formula.field-0
          l.invariant.later l.invariant.put c.in_ok-formula.ensures c.in_ok-push.ensures.items;
      later = later;
    }
