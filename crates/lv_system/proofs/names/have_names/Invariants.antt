use Rattle.std.proofs.Common.{◌≡◌, drop, map}
use Rattle.lv_system.specs.Names.{are_names}
use Rattle.lv_system.proofs.names.have_names.Given as goal

abbrev pub invariant-loop-item : goal.invariant-loop-item
invariant-loop-item g l = are_names (map g.T.HasName.text (drop l.item-index l.items)) ≡ are_names (map g.T.HasName.text l.items)
