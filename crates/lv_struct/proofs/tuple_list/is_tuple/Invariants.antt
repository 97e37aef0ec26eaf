use Rattle.std.proofs.Common.{◌≡◌, drop, length}
use Rattle.lv_formula.specs.Tuples.{tuple_eq}
use Rattle.lv_struct.proofs.tuple_list.is_tuple.Given as goal

abbrev pub invariant-loop-i : goal.invariant-loop-i
invariant-loop-i g l = (length l.elements ≡ length (g.T.Elements.elements l.tuple)) × (tuple_eq (drop l.i l.elements) (drop l.i (g.T.Elements.elements l.tuple)) ≡ tuple_eq l.elements (g.T.Elements.elements l.tuple))
