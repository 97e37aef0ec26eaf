use Rattle.std.proofs.Common.{take}
use Rattle.lv_places.specs.Equality.{place_clauses}
use Rattle.lv_ground.specs.Settings.{numbers}
use Rattle.lv_ground.specs.Making.{Makes}
use Rattle.lv_ground.proofs.replacing.push_places.Given as goal

abbrev pub invariant-loop-k : goal.invariant-loop-k
invariant-loop-k l = Makes l.setting l.initial.made (place_clauses l.setting.sk.now (numbers l.setting) 0 (take l.k l.setting.sk.now.places)) l.made
