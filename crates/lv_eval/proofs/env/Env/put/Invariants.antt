use Rattle.std.proofs.Common.{◌≡◌, ◌+◌, ◌≤◌, length, take}
use Rattle.std.specs.Vec.{vec_capacity, vec_len}
use Rattle.lv_eval.proofs.env.Env.put.Given as goal

abbrev pub invariant-loop-value : goal.invariant-loop-value
invariant-loop-value l = record {
  items : l.self-inside.values.items ≡ take l.value-index l.values;
  len : vec_len l.self-inside.values ≡ l.value-index;
  capacity : vec_capacity l.self-inside.values ≡ length l.fn.self.values + l.fn.self.room;
  room : length l.values ≤ vec_capacity l.self-inside.values;
}
