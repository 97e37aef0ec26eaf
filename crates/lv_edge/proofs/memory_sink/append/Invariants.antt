use Rattle.std.proofs.Common.{◌≡◌, ◌++◌, take, vec_capacity}
use Rattle.lv_edge.proofs.memory_sink.append.Given as goal

abbrev pub invariant-loop-byte : goal.invariant-loop-byte
invariant-loop-byte l = record {
  added : l.bytes.items ≡ l.initial.bytes.items ++ take l.byte-index l.more;
  capacity : vec_capacity l.bytes ≡ vec_capacity l.initial.bytes;
}
