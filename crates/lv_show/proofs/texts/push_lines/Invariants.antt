use Rattle.std.proofs.Common.{◌≡◌, ◌++◌, drop}
use Rattle.lv_grammar.specs.Layout.{in_lines}
use Rattle.lv_show.proofs.texts.push_lines.Given as goal

abbrev pub invariant-loop-tree : goal.invariant-loop-tree
invariant-loop-tree l = l.text.items ++ in_lines (drop l.tree-index l.trees) ≡ l.initial.text.items ++ in_lines l.trees
