use Rattle.std.proofs.Common.{rules}
use Rattle.lv_edge.proofs.Told.{grows_step}
use Rattle.lv_edge.proofs.writing.write_all.Goals as goal

pub loop-at-preserved : goal.loop-at-preserved
loop-at-preserved g c = record {
  grown = grows_step _ _ _ c.args.bytes.now c.loop-at.at c.in_ok-at.field-0 c.loop-at.invariant.grown c.in_ok-at.ensures.bytes;
  within = search rules;
  later = search rules;
}
