-- Free variables of a temporal formula, and formulas with their variables renamed.
use Rattle.std.specs.Prelude.{ℕ, zero, suc, ◌+◌, ◌-◌, eqb, cond, List, [], ◌∷◌, ◌++◌, length, map}
use Rattle.lv_formula.specs.declared.terms.Term.{Term}
use Rattle.lv_formula.specs.declared.terms.Term.TheVariants.{Var, Const}
use Rattle.lv_formula.specs.declared.temporal.Temporal.{Temporal}
use Rattle.lv_formula.specs.declared.temporal.Temporal.TheVariants as T
use Rattle.lv_formula.specs.declared.temporal.Temporal.TheOpen.{Temporal-F, True, False, Atom, Same, Not, And, Or, Implies, Iff, All, Any, Always, Eventually}
use Rattle.lv_formula.specs.declared.temporal.Temporal.TheFolds.{fold-Temporal}
use Rattle.lv_labels.specs.Once.{each_once, is_among, place_of}

-- the variables of terms, in order
abbrev pub term_variables : Term → List ℕ
term_variables (Var v) = v ∷ []
term_variables (Const sym) = []

abbrev pub terms_variables : List Term → List ℕ
terms_variables [] = []
terms_variables (t ∷ ts) = term_variables t ++ terms_variables ts

abbrev pub joined : List (List ℕ) → List ℕ
joined [] = []
joined (vs ∷ vss) = vs ++ joined vss

-- the variables as they are called outside one binder: the binder's own is not free there
abbrev pub outside : List ℕ → List ℕ
outside [] = []
outside (zero ∷ vs) = outside vs
outside (suc v ∷ vs) = v ∷ outside vs

abbrev pub occurrences_step : Temporal-F (List ℕ) → List ℕ
occurrences_step True = []
occurrences_step False = []
occurrences_step (Atom sym terms) = terms_variables terms
occurrences_step (Same a b) = term_variables a ++ term_variables b
occurrences_step (Not f) = f
occurrences_step (And fs) = joined fs
occurrences_step (Or fs) = joined fs
occurrences_step (Implies f g) = f ++ g
occurrences_step (Iff f g) = f ++ g
occurrences_step (All sort f) = outside f
occurrences_step (Any sort f) = outside f
occurrences_step (Always f) = f
occurrences_step (Eventually f) = f

-- the free variables where they occur, from left to right
abbrev pub occurrences_of : Temporal → List ℕ
occurrences_of = fold-Temporal (List ℕ) occurrences_step

abbrev pub occurrences_of_all : List Temporal → List ℕ
occurrences_of_all fs = joined (map occurrences_of fs)

-- the free variables in order of first occurrence
abbrev pub free_variables : Temporal → List ℕ
free_variables f = each_once eqb (occurrences_of f)

-- under a binder the innermost variable stays, and the others are renamed as outside
abbrev pub under : (ℕ → ℕ) → ℕ → ℕ
under to zero = zero
under to (suc v) = suc (to v)

abbrev pub renamed_term : (ℕ → ℕ) → Term → Term
renamed_term to (Var v) = Var (to v)
renamed_term to (Const sym) = Const sym

abbrev pub rename_each : List ((ℕ → ℕ) → Temporal) → (ℕ → ℕ) → List Temporal
rename_each [] to = []
rename_each (f ∷ fs) to = f to ∷ rename_each fs to

abbrev pub rename_step : Temporal-F ((ℕ → ℕ) → Temporal) → (ℕ → ℕ) → Temporal
rename_step True to = T.True
rename_step False to = T.False
rename_step (Atom sym terms) to = T.Atom sym (map (renamed_term to) terms)
rename_step (Same a b) to = T.Same (renamed_term to a) (renamed_term to b)
rename_step (Not f) to = T.Not (f to)
rename_step (And fs) to = T.And (rename_each fs to)
rename_step (Or fs) to = T.Or (rename_each fs to)
rename_step (Implies f g) to = T.Implies (f to) (g to)
rename_step (Iff f g) to = T.Iff (f to) (g to)
rename_step (All sort f) to = T.All sort (f (under to))
rename_step (Any sort f) to = T.Any sort (f (under to))
rename_step (Always f) to = T.Always (f to)
rename_step (Eventually f) to = T.Eventually (f to)

-- the formula with each free variable renamed
abbrev pub renamed : Temporal → (ℕ → ℕ) → Temporal
renamed = fold-Temporal ((ℕ → ℕ) → Temporal) rename_step

abbrev pub renamed_all : List Temporal → (ℕ → ℕ) → List Temporal
renamed_all fs = rename_each (map renamed fs)

-- The variable that stands for v where the listed variables alone are free, the first of them outermost.
-- All others would go above, so that no two variables become one.
abbrev pub renumbered : List ℕ → ℕ → ℕ
renumbered vs v = cond (is_among eqb v vs) (length vs - suc (place_of eqb v vs)) (length vs + v)
