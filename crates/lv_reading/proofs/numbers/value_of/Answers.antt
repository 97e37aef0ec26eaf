use Rattle.std.proofs.Common.{arith}
use Rattle.lv_reading.proofs.NumberLaws.{value_small}
use Rattle.lv_reading.proofs.numbers.value_of.Goals as goal

pub overflow_mul-value : goal.overflow_mul-value
overflow_mul-value c =
    let small = value_small c.loop-byte.value c.args.text.now c.loop-byte.byte-index c.loop-byte-test.true c.requires.digits c.requires.few c.loop-byte.invariant in
    omega (arith, small)

pub overflow_add-value : goal.overflow_add-value
overflow_add-value c =
    let small = value_small c.loop-byte.value c.args.text.now c.loop-byte.byte-index c.loop-byte-test.true c.requires.digits c.requires.few c.loop-byte.invariant in
    let digit = c.saturating_sub.ensures in
    omega (arith, small, digit)
