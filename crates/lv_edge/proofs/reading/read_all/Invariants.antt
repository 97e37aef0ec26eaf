use Rattle.std.proofs.Common.{◌≤◌, ◌-◌, vec_len}
use Rattle.lv_edge.specs.Streams.{Loses}
use Rattle.lv_edge.proofs.reading.read_all.Given as goal

abbrev pub invariant-loop-chunk : goal.invariant-loop-chunk
invariant-loop-chunk g l = record {
  lost : Loses (g.S.Source.left l.initial.src) (g.S.Source.left l.src) l.bytes.items;
  few : vec_len l.bytes ≤ l.most;
  later : g.S.Source.faults l.initial.src ≤ g.S.Source.faults l.src;
}

abbrev pub decreases-loop-chunk : goal.decreases-loop-chunk
decreases-loop-chunk g l = l.most - vec_len l.bytes
