use Rattle.std.proofs.Common.{◌≡◌, ◌++◌, drop, map}
use Rattle.lv_struct.specs.Tabulation.{relation_table}
use Rattle.lv_struct.proofs.tabulation.relations.Given as goal

abbrev pub invariant-loop-shape : goal.invariant-loop-shape
invariant-loop-shape g l = l.all.items ++ map (relation_table (g.I.Interpretation.meaning l.of)) (drop l.shape-index l.shapes) ≡ map (relation_table (g.I.Interpretation.meaning l.of)) l.shapes
