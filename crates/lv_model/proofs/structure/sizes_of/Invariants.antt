use Rattle.std.proofs.Common.{◌≡◌, ◌++◌, length, map, drop}
use Rattle.lv_model.specs.declared.classes.Classes.{Classes}
use Rattle.lv_model.proofs.structure.sizes_of.Given as goal

abbrev pub invariant-loop-of : goal.invariant-loop-of
invariant-loop-of l = l.sizes.items ++ map (λ (c : Classes). length c.firsts) (drop l.of-index l.classes) ≡ map (λ (c : Classes). length c.firsts) l.classes
