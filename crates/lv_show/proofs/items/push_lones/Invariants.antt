use Rattle.std.proofs.Common.{◌≡◌, ◌++◌, drop, map}
use Rattle.lv_grammar.specs.ShownSystems.{shown_lone}
use Rattle.lv_show.proofs.items.push_lones.Given as goal

abbrev pub invariant-loop-f : goal.invariant-loop-f
invariant-loop-f l = l.trees.items ++ map (shown_lone l.words.parts.now l.head 0) (drop l.f-index l.fs) ≡ l.initial.trees.items ++ map (shown_lone l.words.parts.now l.head 0) l.fs
