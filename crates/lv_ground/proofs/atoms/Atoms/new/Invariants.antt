use Rattle.std.proofs.Common.{◌≡◌, length, get_or, ℕ}
use Rattle.lv_ground.specs.Positions.{zeros}
use Rattle.lv_ground.proofs.atoms.Atoms.new.Given as goal

abbrev pub invariant-loop-at : goal.invariant-loop-at
invariant-loop-at l = record {
  len : length l.marks.items ≡ l._at;
  none : (i : ℕ) → get_or l.marks.items i 0 ≡ 0;
  rest : zeros l.marks.items ≡ l._at;
}
