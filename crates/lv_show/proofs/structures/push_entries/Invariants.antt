use Rattle.std.proofs.Common.{◌≡◌, ◌++◌, drop, map}
use Rattle.lv_grammar.specs.ShownStructures.{shown_entry}
use Rattle.lv_show.proofs.structures.push_entries.Given as goal

abbrev pub invariant-loop-sym : goal.invariant-loop-sym
invariant-loop-sym l = l.trees.items ++ map (shown_entry l.words.parts.now l.voc l.m) (drop l.sym-index l.sym-items)
    ≡ l.initial.trees.items ++ map (shown_entry l.words.parts.now l.voc l.m) l.sym-items
