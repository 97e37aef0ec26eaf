use Rattle.std.proofs.Common.{◌≡◌, ◌++◌, drop}
use Rattle.lv_grammar.specs.ShownStructures.{shown_sizes}
use Rattle.lv_show.proofs.structures.push_sizes.Given as goal

abbrev pub invariant-loop-k : goal.invariant-loop-k
invariant-loop-k l = l.trees.items ++ shown_sizes l.parts l.k (drop l.k l.m.sizes) ≡ l.initial.trees.items ++ shown_sizes l.parts 0 l.m.sizes
