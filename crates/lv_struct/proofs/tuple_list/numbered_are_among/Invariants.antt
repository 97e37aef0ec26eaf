use Rattle.std.proofs.Common.{◌≡◌, drop, map}
use Rattle.lv_formula.specs.Tuples.{all_among}
use Rattle.lv_struct.specs.Numbers.{tuple_of}
use Rattle.lv_struct.proofs.tuple_list.numbered_are_among.Given as goal

abbrev pub invariant-loop-number : goal.invariant-loop-number
invariant-loop-number l = all_among (map (tuple_of l.tuples.arity) (drop l.number-index l.tuples.numbers)) l.others ≡ all_among (map (tuple_of l.tuples.arity) l.tuples.numbers) l.others
