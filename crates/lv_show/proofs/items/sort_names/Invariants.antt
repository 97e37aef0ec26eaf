use Rattle.std.proofs.Common.{◌≡◌, ◌++◌, drop, map}
use Rattle.lv_grammar.specs.ShownSystems.{shown_sort_name}
use Rattle.lv_show.proofs.items.sort_names.Given as goal

abbrev pub invariant-loop-sort : goal.invariant-loop-sort
invariant-loop-sort l = l.items.items ++ map (shown_sort_name l.parts) (drop l.sort-index l.sorts) ≡ map (shown_sort_name l.parts) l.sorts
