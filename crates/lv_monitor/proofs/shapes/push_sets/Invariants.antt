use Rattle.std.proofs.Common.{◌≡◌, ◌++◌, drop}
use Rattle.lv_system.specs.InvariantWords.{sets_from}
use Rattle.lv_monitor.specs.Naming.{set_of}
use Rattle.lv_monitor.proofs.shapes.push_sets.Given as goal

abbrev pub invariant-loop-n : goal.invariant-loop-n
invariant-loop-n l = l.shapes.items ++ sets_from (set_of l.set) l.n (drop l.n l.sorts) ≡ l.initial.shapes.items ++ sets_from (set_of l.set) 0 l.sorts
