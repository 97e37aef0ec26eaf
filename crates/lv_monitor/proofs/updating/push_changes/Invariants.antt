use Rattle.std.proofs.Common.{◌≡◌, ◌++◌, drop}
use Rattle.lv_labels.specs.Problem.{problem_of}
use Rattle.lv_monitor.specs.Updates.{is_changed, move_body, updates_of}
use Rattle.lv_monitor.proofs.updating.push_changes.Given as goal

abbrev pub invariant-loop-relation : goal.invariant-loop-relation
invariant-loop-relation l = l.moved.items ++ updates_of (is_changed l.mv) (move_body (problem_of l.parts) l.action l.mv) (drop l.relation-index l.relations) ≡ l.initial.moved.items ++ updates_of (is_changed l.mv) (move_body (problem_of l.parts) l.action l.mv) l.relations
