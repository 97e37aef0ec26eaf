use Rattle.std.proofs.Common.{◌≡◌, ◌++◌, drop, map}
use Rattle.lv_formula.specs.declared.symbols.Sym.TheVariants.{Due}
use Rattle.lv_labels.specs.Problem.{shapes_from}
use Rattle.lv_labels.specs.Rows.{condition_of}
use Rattle.lv_monitor.proofs.shapes.push_due.Given as goal

abbrev pub invariant-loop-n : goal.invariant-loop-n
invariant-loop-n l = l.shapes.items ++ shapes_from Due l.n (map condition_of (drop l.n l.justice)) ≡ l.initial.shapes.items ++ shapes_from Due 0 (map condition_of l.justice)
