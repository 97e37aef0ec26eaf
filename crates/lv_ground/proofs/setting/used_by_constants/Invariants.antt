use Rattle.std.proofs.Common.{take, length}
use Rattle.lv_places.specs.Universes.{constant_terms}
use Rattle.lv_ground.specs.Settings.{AreUsed}
use Rattle.lv_ground.proofs.setting.used_by_constants.Given as goal

abbrev pub invariant-loop-shape : goal.invariant-loop-shape
invariant-loop-shape l = AreUsed l.sk (λ s. length (constant_terms s (take l.shape-index l.sk.constants))) l.used.items
