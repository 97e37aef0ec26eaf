use Rattle.std.proofs.Common.{◌≡◌, ◌++◌, drop, map}
use Rattle.lv_struct.specs.Tabulation.{constant_entry}
use Rattle.lv_struct.proofs.tabulation.constants.Given as goal

abbrev pub invariant-loop-shape : goal.invariant-loop-shape
invariant-loop-shape g l = l.all.items ++ map (constant_entry (g.I.Interpretation.meaning l.of)) (drop l.shape-index l.shapes) ≡ map (constant_entry (g.I.Interpretation.meaning l.of)) l.shapes
