-- The limits on temporal formulas.
use Rattle.std.specs.Prelude.{ℕ, ◌+◌, max, Bool, ◌&&◌, leb, List, map}
use Rattle.lv_formula.specs.declared.temporal.Temporal.{Temporal}
use Rattle.lv_formula.specs.declared.temporal.Temporal.TheOpen.{Temporal-F, True, False, Atom, Same, Not, And, Or, Implies, Iff, All, Any, Always, Eventually}
use Rattle.lv_formula.specs.declared.temporal.Temporal.TheFolds.{fold-Temporal}
use Rattle.lv_formula.specs.Measures.{largest}
use Rattle.lv_formula.specs.TemporalMeasures.{temporal_nodes_of}
use Rattle.lv_system.specs.Limits.{lists_of_atom, in_item}

abbrev pub temporal_lists_step : Temporal-F ℕ → ℕ
temporal_lists_step True = 0
temporal_lists_step False = 0
temporal_lists_step (Atom sym terms) = lists_of_atom terms
temporal_lists_step (Same a b) = 1
temporal_lists_step (Not f) = f + 1
temporal_lists_step (And fs) = largest fs + 1
temporal_lists_step (Or fs) = largest fs + 1
temporal_lists_step (Implies a b) = max a b + 1
temporal_lists_step (Iff a b) = max a b + 1
temporal_lists_step (All sort f) = f + 1
temporal_lists_step (Any sort f) = f + 1
temporal_lists_step (Always f) = f + 1
temporal_lists_step (Eventually f) = f + 1

-- how deep lists nest where the temporal formula is written
abbrev pub temporal_lists_of : Temporal → ℕ
temporal_lists_of = fold-Temporal ℕ temporal_lists_step

abbrev pub temporal_lists_of_all : List Temporal → ℕ
temporal_lists_of_all fs = largest (map temporal_lists_of fs)

abbrev pub temporal_iffs_step : Temporal-F ℕ → ℕ
temporal_iffs_step True = 0
temporal_iffs_step False = 0
temporal_iffs_step (Atom sym terms) = 0
temporal_iffs_step (Same a b) = 0
temporal_iffs_step (Not f) = f
temporal_iffs_step (And fs) = largest fs
temporal_iffs_step (Or fs) = largest fs
temporal_iffs_step (Implies a b) = max a b
temporal_iffs_step (Iff a b) = max a b + 1
temporal_iffs_step (All sort f) = f
temporal_iffs_step (Any sort f) = f
temporal_iffs_step (Always f) = f
temporal_iffs_step (Eventually f) = f

-- the greatest number of equivalences that stand inside one another
abbrev pub temporal_iffs_of : Temporal → ℕ
temporal_iffs_of = fold-Temporal ℕ temporal_iffs_step

abbrev pub temporal_iffs_of_all : List Temporal → ℕ
temporal_iffs_of_all fs = largest (map temporal_iffs_of fs)

-- the same limits for a temporal formula, which is always an item's own
abbrev pub is_small_temporal : Temporal → Bool
is_small_temporal f = leb (temporal_nodes_of f) 1024 && (leb (temporal_iffs_of f) 2 && leb (temporal_lists_of f) in_item)
