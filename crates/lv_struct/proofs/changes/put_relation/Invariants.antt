use Rattle.std.proofs.Common.{◌≡◌, ◌++◌, map, drop}
use Rattle.lv_struct.specs.Changes.{put_tuples}
use Rattle.lv_struct.proofs.changes.put_relation.Given as goal

abbrev pub invariant-loop-relation : goal.invariant-loop-relation
invariant-loop-relation l = l.all.items ++ map (put_tuples l.sym l.tuples) (drop l.relation-index l.relations) ≡ map (put_tuples l.sym l.tuples) l.relations
