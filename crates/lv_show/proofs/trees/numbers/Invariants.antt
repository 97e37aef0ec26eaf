use Rattle.std.proofs.Common.{◌≡◌, ◌++◌, drop, map}
use Rattle.lv_grammar.specs.ShownStructures.{number}
use Rattle.lv_show.proofs.trees.numbers.Given as goal

abbrev pub invariant-loop-n : goal.invariant-loop-n
invariant-loop-n l = l.items.items ++ map number (drop l.n-index l.ns) ≡ map number l.ns
