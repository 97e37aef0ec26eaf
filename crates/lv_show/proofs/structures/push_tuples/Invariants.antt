use Rattle.std.proofs.Common.{◌≡◌, ◌++◌, drop, filter, map}
use Rattle.lv_struct.specs.Tables.{holds_in}
use Rattle.lv_grammar.specs.ShownStructures.{shown_tuple}
use Rattle.lv_show.proofs.structures.push_tuples.Given as goal

abbrev pub invariant-loop-tuple : goal.invariant-loop-tuple
invariant-loop-tuple l = l.trees.items ++ map shown_tuple (filter (holds_in l.m l.sym) (drop l.tuple-index l.tuple-items))
    ≡ l.initial.trees.items ++ map shown_tuple (filter (holds_in l.m l.sym) l.tuple-items)
