-- The values of the variables as sets of literals: those that hold, and those that held at a place of the trail.
use Rattle.std.specs.Prelude.{◌≡◌, ℕ, ◌≤◌, Bool, true, false, List, Option, Some, None, ◌⊎◌, length, nat_lt, if◌then◌else◌, slice_index_or}
use Rattle.lv_cnf.specs.declared.literal.Lit.{Lit}
use Rattle.lv_cnf.specs.Literals.{negated, signed}
use Rattle.lv_watch.specs.declared.trail.Assigned.{Assigned}
use Rattle.lv_watch.specs.declared.trail.Truth.{Truth}
use Rattle.lv_watch.specs.declared.trail.Truth.TheVariants.{Holds, Fails, Undecided}

-- the value of a variable, if it has one
abbrev pub value : List (Option Assigned) → ℕ → Option Assigned
value values v = slice_index_or values v None

-- whether a value makes the literal of this sign true
abbrev pub is_held : Bool → Option Assigned → Bool
is_held p None = false
is_held p (Some h) = signed p h.positive

-- the literals that the values make true
abbrev pub held : List (Option Assigned) → Lit → Bool
held values l = is_held l.positive (value values l.var)

-- the value, if its place is before that one
abbrev pub keeps : ℕ → Option Assigned → Option Assigned
keeps j None = None
keeps j (Some h) = (if nat_lt h.place j then Some h else None)

-- those of them before that place of the trail
abbrev pub before : List (Option Assigned) → ℕ → Lit → Bool
before values j l = is_held l.positive (keeps j (value values l.var))

-- what a truth says of a literal
abbrev pub TruthIs : List (Option Assigned) → Lit → Truth → Type 0
TruthIs values l Holds = held values l ≡ true
TruthIs values l Fails = held values (negated l) ≡ true
TruthIs values l Undecided = value values l.var ≡ None

-- variables got values from that place of the trail on, and none lost or changed one
abbrev pub Extends : ℕ → List (Option Assigned) → List (Option Assigned) → Type 0
Extends place old new =
    (length new ≡ length old)
    × ((v : ℕ) → (value new v ≡ value old v) ⊎ ((value old v ≡ None) × (h : Assigned) × (value new v ≡ Some h) × (place ≤ h.place)))

-- the clause that forced a value
abbrev pub reason_of : Option Assigned → Option ℕ
reason_of None = None
reason_of (Some h) = h.reason

-- the literal is false, by the literal at that place of the trail
abbrev pub FalseAt : List (Option Assigned) → Lit → ℕ → Type 0
FalseAt values l place = (h : Assigned) × (value values l.var ≡ Some h) × (signed l.positive h.positive ≡ false) × (h.place ≡ place)

-- the place of the literal that makes l false; none where l is not false
abbrev pub FalsePlaceIs : List (Option Assigned) → Lit → Option ℕ → Type 0
FalsePlaceIs values l None = (place : ℕ) → FalseAt values l place → ⊥
FalsePlaceIs values l (Some place) = FalseAt values l place
