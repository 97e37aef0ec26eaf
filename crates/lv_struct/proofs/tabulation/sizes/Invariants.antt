use Rattle.std.proofs.Common.{◌≡◌, ◌++◌, ◌-◌}
use Rattle.lv_struct.specs.Tabulation.{sizes_from}
use Rattle.lv_struct.proofs.tabulation.sizes.Given as goal

abbrev pub invariant-loop-k : goal.invariant-loop-k
invariant-loop-k g l = l.all.items ++ sizes_from (g.I.Interpretation.meaning l.of) l.k (l.sorts - l.k) ≡ sizes_from (g.I.Interpretation.meaning l.of) 0 l.sorts
