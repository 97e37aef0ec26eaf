use Rattle.std.proofs.Common.{◌≡◌, ◌++◌, drop}
use Rattle.lv_system.specs.Vocabularies.{relations_from}
use Rattle.lv_monitor.specs.Naming.{name_of, test_of}
use Rattle.lv_monitor.proofs.shapes.push_relations.Given as goal

abbrev pub invariant-loop-n : goal.invariant-loop-n
invariant-loop-n l = l.shapes.items ++ relations_from (test_of l.listed) (name_of l.naming) l.n (drop l.n l.symbols) ≡ l.initial.shapes.items ++ relations_from (test_of l.listed) (name_of l.naming) 0 l.symbols
