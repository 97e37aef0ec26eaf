use Rattle.std.proofs.Common.{◌≤◌, ◌-◌, length, take}
use Rattle.lv_edge.specs.Streams.{Grows}
use Rattle.lv_edge.proofs.writing.write_all.Given as goal

abbrev pub invariant-loop-at : goal.invariant-loop-at
invariant-loop-at g l = record {
  grown : Grows (g.O.Sink.written l.initial.sink) (g.O.Sink.written l.sink) (take l.at l.bytes);
  within : l.at ≤ length l.bytes;
  later : g.O.Sink.faults l.initial.sink ≤ g.O.Sink.faults l.sink;
}

abbrev pub decreases-loop-at : goal.decreases-loop-at
decreases-loop-at g l = length l.bytes - l.at
