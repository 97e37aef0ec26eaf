use Rattle.std.proofs.Common.{◌≡◌, ◌++◌, drop}
use Rattle.lv_grammar.specs.ShownSystems.{shown_names}
use Rattle.lv_show.proofs.items.variables.Given as goal

abbrev pub invariant-loop-sort : goal.invariant-loop-sort
invariant-loop-sort l = l.items.items ++ shown_names l.number (drop l._sort-index l.sorts) ≡ shown_names l.depth l.sorts
