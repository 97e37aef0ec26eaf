use Rattle.lv_places.specs.Universes.{count_at}
use Rattle.lv_ground.specs.Settings.{AreUsed, AreFirsts, first_term}
use Rattle.lv_ground.proofs.setting.first_terms.Given as goal

abbrev pub invariant-loop-place : goal.invariant-loop-place
invariant-loop-place l = record {
  used : AreUsed l.sk (first_term l.sk (count_at l.counts) l.place-index) l.used.items;
  firsts : AreFirsts l.sk (count_at l.counts) l.place-index l.firsts.items;
}
