use Rattle.std.proofs.Common.{◌≡◌, ◌++◌, drop}
use Rattle.lv_grammar.specs.ShownSystems.{shown_pairs}
use Rattle.lv_show.proofs.items.parameters.Given as goal

abbrev pub invariant-loop-sort : goal.invariant-loop-sort
invariant-loop-sort l = l.items.items ++ shown_pairs l.parts l.number (drop l.sort-index l.sorts) ≡ shown_pairs l.parts 0 l.sorts
