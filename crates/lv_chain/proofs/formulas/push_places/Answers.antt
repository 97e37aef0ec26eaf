use Rattle.std.proofs.Common.{◌≤◌, ◌+◌, arith}
use Rattle.lv_chain.specs.Formulas.{of_place}
use Rattle.lv_chain.proofs.EachLaw.{each_step}
use Rattle.lv_chain.proofs.formulas.push_places.Goals as goal

pub loop-place-preserved : goal.loop-place-preserved
loop-place-preserved c =
    let l = c.loop-place in
    let later : c.args.first ≤ l.place + 1 = let before = l.invariant.later in omega (arith, before) in
    record {
      put = each_step (of_place c.args.kind) c.args.first l.place c.args.formulas.now.items l.formulas.items c.push.new.self.items c.in_ok-formula.field-0
          l.invariant.later l.invariant.put c.in_ok-formula.ensures c.in_ok-push.ensures.items;
      later = later;
    }
