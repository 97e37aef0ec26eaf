use Rattle.std.proofs.Common.{◌≡◌, ◌++◌, drop}
use Rattle.lv_tree.specs.Writing.{written_behind}
use Rattle.lv_tree.proofs.writer.+push.Given as goal

abbrev pub invariant-push_items-loop-item : goal.invariant-push_items-loop-item
invariant-push_items-loop-item l = l.out.items ++ written_behind (drop l.item-index l.others) ≡ l.initial.out.items ++ written_behind l.others
