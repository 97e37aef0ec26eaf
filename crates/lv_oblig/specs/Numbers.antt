-- The obligations by their numbers.
use Rattle.std.specs.Prelude.{ℕ, ◌<◌, ◌≤◌, List, [], ◌∷◌, ◌++◌, get_or, length, All}
use Rattle.lv_system.specs.declared.parts.Parts.{Parts}
use Rattle.lv_system.specs.declared.parts.Action.{Action}
use Rattle.lv_system.specs.declared.parts.Invariant.{Invariant}
use Rattle.lv_labels.specs.declared.which.Which.{Which}
use Rattle.lv_labels.specs.declared.which.Which.TheVariants.{Start, Step, Catch}
use Rattle.lv_labels.specs.Obligations.{obligations_of, steps_from}
use Rattle.lv_labels.specs.Labels.{labels_of}
use Rattle.lv_labels.specs.Problem.{Problem}

-- the steps, of which the first action has the number n, and the catch
abbrev pub from_action : List Invariant → ℕ → List Action → List Which
from_action is n as' = steps_from is n as' ++ Catch ∷ []

-- the obligation is of an action below the number
abbrev pub IsBelow : ℕ → Which → Type 0
IsBelow n (Start invariant) = Unit {0}
IsBelow n (Step action mv invariant) = action < n
IsBelow n Catch = Unit {0}

-- the obligation with that number
abbrev pub obligation_at : Parts → ℕ → Which
obligation_at p i = get_or (obligations_of p) i Catch

-- the obligation is of an action that is there
abbrev pub IsThere : Problem → Which → Type 0
IsThere q = IsBelow (length q.parts.actions)

-- each label has at most four arguments
abbrev pub AreNarrow : Parts → Type 0
AreNarrow p = All (λ key. length key.sorts ≤ 4) (labels_of p)
