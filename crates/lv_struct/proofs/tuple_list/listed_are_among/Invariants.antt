use Rattle.std.proofs.Common.{◌≡◌, drop}
use Rattle.lv_formula.specs.Tuples.{all_among}
use Rattle.lv_struct.proofs.tuple_list.listed_are_among.Given as goal

abbrev pub invariant-loop-tuple : goal.invariant-loop-tuple
invariant-loop-tuple l = all_among (drop l.tuple-index l.tuples) l.others ≡ all_among l.tuples l.others
