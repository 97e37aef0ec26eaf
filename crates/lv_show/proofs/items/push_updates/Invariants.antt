use Rattle.std.proofs.Common.{◌≡◌, ◌++◌, drop, map}
use Rattle.lv_grammar.specs.ShownSystems.{shown_update}
use Rattle.lv_show.proofs.items.push_updates.Given as goal

abbrev pub invariant-loop-each : goal.invariant-loop-each
invariant-loop-each l = l.items.items ++ map (shown_update l.words.parts.now l.depth) (drop l.each-index l.updates) ≡ l.initial.items.items ++ map (shown_update l.words.parts.now l.depth) l.updates
