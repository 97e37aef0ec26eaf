use Rattle.std.proofs.Common.{◌≡◌, drop}
use Rattle.lv_formula.specs.Tuples.{has_tuple}
use Rattle.lv_struct.proofs.tuple_list.contains_tuple.Given as goal

abbrev pub invariant-loop-t : goal.invariant-loop-t
invariant-loop-t g l = has_tuple (drop l.t-index l.tuples) (g.T.Elements.elements l.tuple) ≡ has_tuple l.tuples (g.T.Elements.elements l.tuple)
