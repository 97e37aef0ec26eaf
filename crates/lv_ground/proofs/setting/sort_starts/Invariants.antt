use Rattle.std.proofs.Common.{◌≡◌}
use Rattle.lv_places.specs.Universes.{count_at}
use Rattle.lv_ground.specs.Positions.{rows_to}
use Rattle.lv_ground.specs.Settings.{AreSortStarts}
use Rattle.lv_ground.proofs.setting.sort_starts.Given as goal

abbrev pub invariant-loop-s : goal.invariant-loop-s
invariant-loop-s l = record {
  all : l.all ≡ rows_to l.sk (count_at l.counts) l.s;
  starts : AreSortStarts l.sk (count_at l.counts) l.s l.starts.items;
}
