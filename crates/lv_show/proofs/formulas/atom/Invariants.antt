use Rattle.std.proofs.Common.{◌≡◌, ◌++◌, drop, map}
use Rattle.lv_grammar.specs.ShownFormulas.{shown_term}
use Rattle.lv_show.proofs.formulas.atom.Given as goal

abbrev pub invariant-loop-x : goal.invariant-loop-x
invariant-loop-x l = l.items.items ++ map (shown_term l.words.parts.now l.depth) (drop l.x-index l.terms) ≡ l.initial.items.items ++ map (shown_term l.words.parts.now l.depth) l.terms
