use Rattle.std.proofs.Common.{◌≡◌, drop}
use Rattle.lv_formula.specs.Tuples.{has_tuple}
use Rattle.lv_struct.specs.Tables.{tuples_in}
use Rattle.lv_struct.proofs.structure.Structure.has.Given as goal

abbrev pub invariant-loop-relation : goal.invariant-loop-relation
invariant-loop-relation g l = has_tuple (tuples_in (drop l.relation-index l.self.relations) l.sym) (g.T.Elements.elements l.tuple) ≡ has_tuple (tuples_in l.self.relations l.sym) (g.T.Elements.elements l.tuple)
