use Rattle.std.proofs.Common.{◌≡◌, ◌++◌, drop}
use Rattle.lv_report.specs.Texts.{sort_texts}
use Rattle.lv_report.proofs.names.push_sorts.Given as goal

abbrev pub invariant-loop-sort : goal.invariant-loop-sort
invariant-loop-sort l = l.text.items ++ sort_texts l.parts (drop l.sort-index l.sorts) ≡ l.initial.text.items ++ sort_texts l.parts l.sorts
