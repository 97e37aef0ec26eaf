use Rattle.std.proofs.Common.{◌≡◌, true, drop}
use Rattle.lv_struct.specs.Tables.{IsSound, meaning}
use Rattle.lv_system.specs.Fits.{updates_fit}
use Rattle.lv_exec.specs.Setting.{set_all}
use Rattle.lv_exec.specs.Symbols.{SameSymbols}
use Rattle.lv_exec.proofs.performing.set_each.Given as goal

abbrev pub invariant-loop-update : goal.invariant-loop-update
invariant-loop-update l = record {
  made : set_all l.parts l.elements (meaning l.m) (drop l.update-index l.action.updates) l.next ≡ set_all l.parts l.elements (meaning l.m) l.action.updates l.m;
  fits : updates_fit l.parts l.action.params (drop l.update-index l.action.updates) ≡ true;
  same : SameSymbols l.m l.next;
  sound : IsSound l.m;
}
