use Rattle.std.proofs.Common.{◌≡◌, ◌++◌, drop, filter}
use Rattle.lv_struct.proofs.tabulation.relation.Given as goal

abbrev pub invariant-loop-tuple : goal.invariant-loop-tuple
invariant-loop-tuple g l = l.tuples.items ++ filter ((g.I.Interpretation.meaning l.of).holds l.shape.sym) (drop l.tuple-index l.tuple-items)
    ≡ filter ((g.I.Interpretation.meaning l.of).holds l.shape.sym) l.tuple-items
