use Rattle.std.proofs.Common.{◌≡◌, take}
use Rattle.lv_struct.proofs.changes.copy_relations.Given as goal

abbrev pub invariant-loop-relation : goal.invariant-loop-relation
invariant-loop-relation l = l.all.items ≡ take l.relation-index l.relations
