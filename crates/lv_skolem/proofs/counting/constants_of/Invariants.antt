use Rattle.std.proofs.Common.{◌≡◌, ◌≤◌, ◌+◌, length, drop}
use Rattle.lv_places.specs.Universes.{constant_terms}
use Rattle.lv_skolem.specs.Counting.{capped}
use Rattle.lv_skolem.proofs.counting.constants_of.Given as goal

abbrev pub invariant-loop-shape : goal.invariant-loop-shape
invariant-loop-shape l = record {
  small : l.count ≤ 4000001;
  rest : capped (l.count + length (constant_terms l.sort (drop l.shape-index l.constants))) ≡ capped (length (constant_terms l.sort l.constants));
}
