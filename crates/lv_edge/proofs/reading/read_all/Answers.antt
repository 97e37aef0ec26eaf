use Rattle.std.proofs.Common.{◌+◌, arith, length-take}
use Rattle.lv_edge.proofs.Told.{loses_more_at_most}
use Rattle.lv_edge.proofs.reading.read_all.Goals as goal

pub returns-in_err-read_more-clause-lost : goal.returns-in_err-read_more-clause-lost
returns-in_err-read_more-clause-lost g c =
    loses_more_at_most _ (c.args.limit + 1) _ _ _ c.loop-chunk.bytes.items c.loop-chunk.invariant.lost c.read_more.ensures.lost_some
    (rw length-take (omega (arith, c.loop-chunk.bytes.ok.0)))
