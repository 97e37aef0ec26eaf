use Rattle.std.proofs.Common.{◌≡◌, drop}
use Rattle.lv_formula.specs.Tuples.{has_tuple}
use Rattle.lv_struct.specs.Numbers.{tuple_of}
use Rattle.lv_struct.proofs.tuple_list.contains_numbered.Given as goal

abbrev pub invariant-loop-t : goal.invariant-loop-t
invariant-loop-t l = has_tuple (drop l.t-index l.tuples) (tuple_of l.arity l.number) ≡ has_tuple l.tuples (tuple_of l.arity l.number)
