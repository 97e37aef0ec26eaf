use Rattle.std.proofs.Common.{◌≡◌, ◌++◌, drop, map}
use Rattle.lv_labels.specs.Problem.{shapes_from}
use Rattle.lv_labels.specs.Rows.{row_condition}
use Rattle.lv_monitor.specs.Naming.{name_of}
use Rattle.lv_monitor.proofs.shapes.push_labels.Given as goal

abbrev pub invariant-loop-n : goal.invariant-loop-n
invariant-loop-n l = l.shapes.items ++ shapes_from (name_of l.naming) l.n (map row_condition (drop l.n l.labels)) ≡ l.initial.shapes.items ++ shapes_from (name_of l.naming) 0 (map row_condition l.labels)
