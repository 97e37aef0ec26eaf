use Rattle.lv_places.specs.Universes.{counts}
use Rattle.lv_model.specs.Truths.{sort}
use Rattle.lv_model.proofs.Offsets.{offsets_pushed}
use Rattle.lv_model.proofs.rows.offsets_of.Goals as goal

pub loop-i-preserved : goal.loop-i-preserved
loop-i-preserved c =
    offsets_pushed (counts c.args.u.now.terms) c.args.classes.now c.args.sorts.now c.loop-i.i c.loop-i.all.items c.push.new.self.items
    c.in_ok-scaled.field-0 c.firsts_in.result.now c.in_ok-weight.weight (sort 0) c.loop-i-test.true c.in_ok-push.ensures.items c.in_ok-scaled.ensures
    c.firsts_in.ensures c.in_ok-weight.ensures c.loop-i.invariant
