use Rattle.std.proofs.Common.{◌≡◌, drop, map}
use Rattle.lv_system.specs.Names.{each_stands_once, names_of}
use Rattle.lv_system.proofs.names.each_once.Given as goal

abbrev pub invariant-loop-item : goal.invariant-loop-item
invariant-loop-item g l = each_stands_once (map g.T.HasName.text (drop l.item-index l.items)) (names_of l.parts) ≡ each_stands_once (map g.T.HasName.text l.items) (names_of l.parts)
