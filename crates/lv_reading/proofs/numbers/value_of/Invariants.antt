use Rattle.std.proofs.Common.{◌≡◌, drop}
use Rattle.lv_reading.specs.Numbers.{value_from}
use Rattle.lv_reading.proofs.numbers.value_of.Given as goal

abbrev pub invariant-loop-byte : goal.invariant-loop-byte
invariant-loop-byte l = value_from l.value (drop l.byte-index l.text) ≡ value_from 0 l.text
