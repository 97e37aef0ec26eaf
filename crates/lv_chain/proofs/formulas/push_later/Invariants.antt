use Rattle.std.proofs.Common.{◌≡◌, ◌≤◌, ◌+◌, ◌-◌, ◌++◌}
use Rattle.lv_chain.specs.Formulas.{each, of_pair}
use Rattle.lv_chain.proofs.formulas.push_later.Given as goal

abbrev pub invariant-loop-later : goal.invariant-loop-later
invariant-loop-later l = record {
  put : l.formulas.items ≡ l.initial.formulas.items ++ each (of_pair l.kind l.place) (l.place + 1) (l.later - (l.place + 1));
  later : l.place + 1 ≤ l.later;
}
