use Rattle.std.proofs.Common.{◌≡◌, ◌<◌, ◌^◌, drop}
use Rattle.lv_struct.specs.Numbers.{number_from, radix}
use Rattle.lv_struct.proofs.NumberLaws.{are_digits}
use Rattle.lv_struct.proofs.numbers.number_of.Given as goal

abbrev pub invariant-loop-i : goal.invariant-loop-i
invariant-loop-i g l =
    (l.number < radix ^ l.i)
    × (number_from l.number (drop l.i (g.T.Elements.elements l.tuple)) ≡ number_from 0 (g.T.Elements.elements l.tuple))
    × (are_digits (drop l.i (g.T.Elements.elements l.tuple)) ≡ are_digits (g.T.Elements.elements l.tuple))
