use Rattle.std.proofs.Common.{◌≡◌, [], drop}
use Rattle.lv_words.specs.Scopes.{scope_seen}
use Rattle.lv_grammar.specs.ReadItems.{updates_in}
use Rattle.lv_syntax.proofs.updates.read_updates.Given as goal

abbrev pub invariant-loop-tree : goal.invariant-loop-tree
invariant-loop-tree l = updates_in l.known (scope_seen l.scope) l.updates (drop l.tree-index l.items) ≡ updates_in l.known (scope_seen l.scope) [] l.items
