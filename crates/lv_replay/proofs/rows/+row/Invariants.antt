use Rattle.std.proofs.Common.{◌≡◌, map, drop}
use Rattle.lv_struct.specs.Tables.{meaning}
use Rattle.lv_replay.specs.Rows.{joined_all, joined_below, row_of}
use Rattle.lv_replay.proofs.rows.+row.Given as goal

abbrev pub invariant-join_each-loop-f : goal.invariant-join_each-loop-f
invariant-join_each-loop-f l = joined_all l.how l.joined (map (row_of (map meaning l.states) l.stem) (drop l.f-index l.fs)) l.values
    ≡ joined_all l.how (map (λ m. l.fn.first) (map meaning l.states)) (map (row_of (map meaning l.states) l.stem) l.fs) l.values

abbrev pub invariant-join_elements-loop-x : goal.invariant-join_elements-loop-x
invariant-join_elements-loop-x l = l.joined ≡ joined_below l.how (map (λ m. l.fn.first) (map meaning l.states)) l.x (row_of (map meaning l.states) l.stem l.f) l.values
