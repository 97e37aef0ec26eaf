use Rattle.std.proofs.Common.{◌≡◌, ◌++◌, drop}
use Rattle.lv_labels.specs.Problem.{names_for}
use Rattle.lv_monitor.specs.Naming.{name_of}
use Rattle.lv_monitor.proofs.listing.push_names.Given as goal

abbrev pub invariant-loop-n : goal.invariant-loop-n
invariant-loop-n g l = l.names.items ++ names_for (name_of l.naming) l.n (drop l.n l.items) ≡ l.initial.names.items ++ names_for (name_of l.naming) 0 l.items
