use Rattle.std.proofs.Common.{◌≡◌, ◌++◌, drop, map}
use Rattle.lv_grammar.specs.ShownStructures.{number}
use Rattle.lv_lasso.proofs.writing.step.Given as goal

abbrev pub invariant-loop-element : goal.invariant-loop-element
invariant-loop-element l = l.items.items ++ map number (drop l.element-index l.step.elements) ≡ map number l.step.elements
