-- The measures of a temporal formula.
use Rattle.std.specs.Prelude.{ℕ, ◌+◌, List, map}
use Rattle.lv_formula.specs.declared.temporal.Temporal.{Temporal}
use Rattle.lv_formula.specs.declared.temporal.Temporal.TheOpen.{Temporal-F, True, False, Atom, Same, Not, And, Or, Implies, Iff, All, Any, Always, Eventually}
use Rattle.lv_formula.specs.declared.temporal.Temporal.TheFolds.{fold-Temporal}
use Rattle.lv_formula.specs.Measures.{total}

abbrev pub temporal_nodes_step : Temporal-F ℕ → ℕ
temporal_nodes_step True = 1
temporal_nodes_step False = 1
temporal_nodes_step (Atom sym terms) = 1
temporal_nodes_step (Same a b) = 1
temporal_nodes_step (Not f) = f + 1
temporal_nodes_step (And fs) = total fs + 1
temporal_nodes_step (Or fs) = total fs + 1
temporal_nodes_step (Implies a b) = a + b + 1
temporal_nodes_step (Iff a b) = a + b + 1
temporal_nodes_step (All sort f) = f + 1
temporal_nodes_step (Any sort f) = f + 1
temporal_nodes_step (Always f) = f + 1
temporal_nodes_step (Eventually f) = f + 1

-- the number of temporal formulas in one, itself included
abbrev pub temporal_nodes_of : Temporal → ℕ
temporal_nodes_of = fold-Temporal ℕ temporal_nodes_step

abbrev pub temporal_nodes_of_all : List Temporal → ℕ
temporal_nodes_of_all fs = total (map temporal_nodes_of fs)
