use Rattle.std.proofs.Common.{◌≡◌, ◌++◌, drop, filter}
use Rattle.lv_struct.specs.Tables.{meaning}
use Rattle.lv_exec.specs.Setting.{is_true_with}
use Rattle.lv_exec.proofs.performing.tuples_where.Given as goal

abbrev pub invariant-loop-tuple : goal.invariant-loop-tuple
invariant-loop-tuple l = l.kept.items ++ filter (is_true_with (meaning l.m) l.elements l.body) (drop l.tuple-index l.tuple-items) ≡ filter (is_true_with (meaning l.m) l.elements l.body) l.tuple-items
