-- A small system whose obligations are valid, a fair run of it, and the system with one invariant too few.
use Rattle.std.specs.Prelude.{ℕ, zero, Bool, true, false, List, [], ◌∷◌, codes}
use Rattle.lv_formula.specs.declared.symbols.Sym.{Sym}
use Rattle.lv_formula.specs.declared.symbols.Sym.TheVariants.{Own, Label, Due}
use Rattle.lv_formula.specs.declared.formula.Formula.{Formula}
use Rattle.lv_formula.specs.declared.formula.Formula.TheVariants as F
use Rattle.lv_formula.specs.declared.temporal.Temporal.{Temporal}
use Rattle.lv_formula.specs.declared.temporal.Temporal.TheVariants as T
use Rattle.lv_formula.specs.Meaning.{Meaning}
use Rattle.lv_system.specs.declared.parts.Parts.{Parts}
use Rattle.lv_system.specs.declared.parts.Shape.TheVariants as S
use Rattle.lv_system.specs.declared.parts.ActionUpdate.TheVariants as U
use Rattle.lv_system.specs.declared.parts.Invariant.{Invariant}
use Rattle.lv_system.specs.Lasso.{Stop}
use Rattle.lv_struct.specs.Tables.{HasVocabulary, IsSound, Tables, meaning}
use Rattle.lv_labels.specs.Problem.{problem_of}
use Rattle.lv_labels.specs.declared.which.Which.{Which}
use Rattle.lv_labels.specs.Obligations.{Breaks, vocabulary_of}

-- the relation p, which has no arguments, in a formula and in a temporal one
abbrev pub p_holds : Formula
p_holds = F.Atom (Own 0) []

abbrev pub p_then : Temporal
p_then = T.Atom (Own 0) []

abbrev pub stuck_holds : Invariant
stuck_holds = record { name = codes "i1"; formula = F.Atom (Label 0) [] }

abbrev pub moved_is_due : Invariant
moved_is_due = record { name = codes "i2"; formula = F.Atom (Due 0) [] }

-- p is false at first, the one action makes it true, and so p holds at some time where p holds again and again;
-- with these invariants
abbrev pub small_with : List Invariant → Parts
small_with invariants = record {
  name = codes "small";
  sorts = [];
  symbols = record { name = codes "p"; shape = S.Relation []; fixed = false } ∷ [];
  axioms = [];
  inits = F.Not p_holds ∷ [];
  actions = record { name = codes "go"; params = []; guard = F.True; updates = U.Relation 0 F.True ∷ [] } ∷ [];
  fairs = record { name = codes "moved"; params = []; condition = p_holds } ∷ [];
  labels = record { name = codes "stuck"; params = []; formula = T.Always (T.Not p_then) } ∷ [];
  witnesses = [];
  property = T.Eventually p_then;
  invariants = invariants;
}

-- its obligations are valid
abbrev pub small : Parts
small = small_with (stuck_holds ∷ moved_is_due ∷ [])

-- an invariant is missing: a step can break the other
abbrev pub unhelped : Parts
unhelped = small_with (moved_is_due ∷ [])

abbrev pub is_nothing : List ℕ → Bool
is_nothing [] = true
is_nothing (x ∷ xs) = false

-- the structure in which p is true or isn't
abbrev pub p_is : Bool → Sym → List ℕ → Bool
p_is true (Own zero) tuple = is_nothing tuple
p_is truth sym tuple = false

abbrev pub state_of : Bool → Meaning
state_of truth = record { size = λ s. 1; holds = p_is truth; value = λ c. 0 }

abbrev pub stop_of : Bool → Stop
stop_of truth = record { state = state_of truth; action = 0; elements = [] }

-- a fair run: p is false, then true for ever
abbrev pub small_stem : List Stop
small_stem = stop_of false ∷ []

abbrev pub small_loop : List Stop
small_loop = stop_of true ∷ []

-- the structure in which p is true and the condition of fairness is due, and nothing else is true
abbrev pub breaking_holds : Sym → List ℕ → Bool
breaking_holds (Own zero) tuple = is_nothing tuple
breaking_holds (Due zero) tuple = is_nothing tuple
breaking_holds sym tuple = false

abbrev pub breaking : Meaning
breaking = record { size = λ s. 1; holds = breaking_holds; value = λ c. 0 }

-- some structure as data, of the obligation's vocabulary, breaks it
abbrev pub IsBroken : Parts → Which → Type 0
IsBroken p which = (w : Tables) × IsSound w × HasVocabulary (vocabulary_of (problem_of p) which) w × Breaks (problem_of p) which (meaning w)
