-- A formula as a temporal formula, so that one grammar serves both.
use Rattle.std.specs.Prelude.{List, map}
use Rattle.lv_formula.specs.declared.formula.Formula.{Formula}
use Rattle.lv_formula.specs.declared.formula.Formula.TheOpen.{Formula-F, True, False, Atom, Same, Not, And, Or, Implies, Iff, All, Any}
use Rattle.lv_formula.specs.declared.formula.Formula.TheFolds.{fold-Formula}
use Rattle.lv_formula.specs.declared.temporal.Temporal.{Temporal}
use Rattle.lv_formula.specs.declared.temporal.Temporal.TheVariants as T

abbrev pub lifted_step : Formula-F Temporal → Temporal
lifted_step True = T.True
lifted_step False = T.False
lifted_step (Atom sym terms) = T.Atom sym terms
lifted_step (Same a b) = T.Same a b
lifted_step (Not f) = T.Not f
lifted_step (And fs) = T.And fs
lifted_step (Or fs) = T.Or fs
lifted_step (Implies f g) = T.Implies f g
lifted_step (Iff f g) = T.Iff f g
lifted_step (All sort f) = T.All sort f
lifted_step (Any sort f) = T.Any sort f

-- the formula, as a temporal formula without temporal operators
abbrev pub lifted : Formula → Temporal
lifted = fold-Formula Temporal lifted_step

abbrev pub lifted_all : List Formula → List Temporal
lifted_all = map lifted
