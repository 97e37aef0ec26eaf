use Rattle.std.proofs.Common.{◌≡◌, ◌++◌, drop, map}
use Rattle.lv_show.proofs.items.push_each.Given as goal

abbrev pub invariant-loop-item : goal.invariant-loop-item
invariant-loop-item g l = l.trees.items ++ map (g.T.Item.shown l.words.parts.now) (drop l.item-index l.items) ≡ l.initial.trees.items ++ map (g.T.Item.shown l.words.parts.now) l.items
