use Rattle.std.proofs.Common.{◌≡◌, ◌++◌, map, drop, length}
use Rattle.lv_ground.proofs.setting.counts_of.Given as goal

abbrev pub invariant-loop-terms : goal.invariant-loop-terms
invariant-loop-terms l = l.counts.items ++ map (λ terms. length terms) (drop l.terms-index l.terms-items) ≡ map (λ terms. length terms) l.terms-items
