use Rattle.std.proofs.Common.{◌≡◌, ◌≤◌, ◌-◌, ◌++◌}
use Rattle.lv_chain.specs.Formulas.{each, of_place}
use Rattle.lv_chain.proofs.formulas.push_places.Given as goal

abbrev pub invariant-loop-place : goal.invariant-loop-place
invariant-loop-place l = record {
  put : l.formulas.items ≡ l.initial.formulas.items ++ each (of_place l.kind) l.first (l.place - l.first);
  later : l.first ≤ l.place;
}
