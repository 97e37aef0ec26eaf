use Rattle.std.proofs.Common.{◌≡◌, length, get_or, ℕ}
use Rattle.lv_ground.proofs.setting.none_used.Given as goal

abbrev pub invariant-loop-s : goal.invariant-loop-s
invariant-loop-s l = record {
  len : length l.used.items ≡ l._s;
  none : (i : ℕ) → get_or l.used.items i 0 ≡ 0;
}
