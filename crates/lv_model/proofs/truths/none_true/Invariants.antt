use Rattle.std.proofs.Common.{◌≡◌, ℕ, false, length, get_or}
use Rattle.lv_model.proofs.truths.none_true.Given as goal

abbrev pub invariant-loop-i : goal.invariant-loop-i
invariant-loop-i l = record {
  len : length l.truths.items ≡ l._i;
  none : (i : ℕ) → get_or l.truths.items i false ≡ false;
}
