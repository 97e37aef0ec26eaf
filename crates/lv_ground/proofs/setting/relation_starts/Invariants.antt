use Rattle.std.proofs.Common.{◌≡◌, take}
use Rattle.lv_places.specs.Universes.{count_at}
use Rattle.lv_ground.specs.Positions.{relation_rows}
use Rattle.lv_ground.specs.Settings.{AreRelationStarts}
use Rattle.lv_ground.proofs.setting.relation_starts.Given as goal

abbrev pub invariant-loop-shape : goal.invariant-loop-shape
invariant-loop-shape l = record {
  all : l.all ≡ relation_rows (count_at l.counts) (take l.shape-index l.sk.relations);
  starts : AreRelationStarts l.sk (count_at l.counts) l.shape-index l.starts.items;
}
