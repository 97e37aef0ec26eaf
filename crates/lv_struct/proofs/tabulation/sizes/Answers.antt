use Rattle.std.proofs.Common.{rules}
use Rattle.lv_struct.proofs.Tabulate.{size_pushed}
use Rattle.lv_struct.proofs.tabulation.sizes.Goals as goal

pub loop-k-preserved : goal.loop-k-preserved
loop-k-preserved g c =
    size_pushed (g.I.Interpretation.meaning c.args.of.now) c.loop-k.k c.args.sorts c.loop-k.all.items c.push.new.self.items c.size.result
    c.loop-k-test.true (search rules) c.size.ensures c.loop-k.invariant
