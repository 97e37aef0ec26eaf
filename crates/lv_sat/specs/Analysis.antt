-- The analysis of a conflict: marked places of the trail, and the clause that is learned.
use Rattle.std.specs.Prelude.{◌≡◌, ℕ, zero, suc, ◌+◌, ◌<◌, ◌≤◌, Bool, true, false, List, [], ◌∷◌, ◌++◌, ◌⊎◌, length, Option, Some, None, replicate}
use Rattle.std.specs.Prelude.{slice_index_or, nat_lt, if◌then◌else◌}
use Rattle.std.specs.List.{All, Contains, IsDistinct}
use Rattle.lv_cnf.specs.declared.literal.Lit.{Lit}
use Rattle.lv_cnf.specs.Literals.{negated, InRange}
use Rattle.lv_cnf.specs.Propagation.{IsConsistent, Settles, Follows}
use Rattle.lv_cnf.specs.Packed.{at}
use Rattle.lv_watch.specs.declared.trail.Assigned.{Assigned}
use Rattle.lv_watch.specs.declared.trail.Trail.{Trail}
use Rattle.lv_watch.specs.Values.{value, is_held, before, reason_of, FalseAt}
use Rattle.lv_watch.specs.Lists.{same_lit}
use Rattle.lv_watch.specs.Trail.{start_at, HasTrail}
use Rattle.lv_sat.specs.declared.analysis.Analysis.{Analysis}
use Rattle.lv_sat.specs.declared.analysis.Learned.{Learned}

-- whether a place is marked
abbrev pub mark_at : List Bool → ℕ → Bool
mark_at marks i = slice_index_or marks i false

-- the value, if its place is marked and below that one
abbrev pub chosen : List Bool → ℕ → Option Assigned → Option Assigned
chosen marks limit None = None
chosen marks limit (Some h) = (if nat_lt h.place limit then (if mark_at marks h.place then Some h else None) else None)

-- the literals that are marked below that place
abbrev pub marked : List (Option Assigned) → List Bool → ℕ → Lit → Bool
marked values marks limit l = is_held l.positive (chosen marks limit (value values l.var))

-- the first number unless it is 0, and else the second
abbrev pub number_of : ℕ → ℕ → ℕ
number_of zero other = other
number_of (suc bound) other = suc bound

-- nothing is marked
pub record Begins (trail : Trail) (a : Analysis) : Type 0 where
  pub marks : a.marks.items ≡ replicate (length trail.lits.items) false
  pub first : a.first ≡ start_at trail.starts.items 0
  pub start : (i : ℕ) → i + 1 ≡ length trail.starts.items → a.start ≡ start_at trail.starts.items i
  pub lowest : a.lowest ≡ length trail.lits.items

-- what marks keep: nothing below the first decision is marked, and `lowest` is the lowest mark from the last decision on
pub record IsMarking (a : Analysis) : Type 0 where
  pub above : (i : ℕ) → mark_at a.marks.items i ≡ true → a.first ≤ i
  pub low : (i : ℕ) → a.start ≤ i → mark_at a.marks.items i ≡ true → a.lowest ≤ i
  pub lowest : a.lowest < length a.marks.items → (a.start ≤ a.lowest) × (mark_at a.marks.items a.lowest ≡ true)

-- more places are marked
pub record Extends (old new : Analysis) : Type 0 where
  pub size : length new.marks.items ≡ length old.marks.items
  pub first : new.first ≡ old.first
  pub start : new.start ≡ old.start
  pub more : (i : ℕ) → mark_at old.marks.items i ≡ true → mark_at new.marks.items i ≡ true
  pub lower : new.lowest ≤ old.lowest
  pub marking : IsMarking old → IsMarking new

-- a place is marked, unless it is of level 0
pub record MarksPlace (old new : Analysis) (place : ℕ) : Type 0 where
  pub extends : Extends old new
  pub here : new.first ≤ place → mark_at new.marks.items place ≡ true

-- where the literal is false, its place is marked or below the first decision's
abbrev pub IsCovered : Analysis → Trail → Lit → Type 0
IsCovered a trail m = (i : ℕ) → FalseAt trail.values.items m i → a.first ≤ i → mark_at a.marks.items i ≡ true

-- a clause is marked: what makes its false literals false
pub record Marks (old new : Analysis) (trail : Trail) (lits : List Lit) : Type 0 where
  pub extends : Extends old new
  pub covers : All (IsCovered new trail) lits

-- the analysis is of this trail
pub record IsOfTrail (clauses : List (List Lit)) (trail : Trail) (a : Analysis) : Type 0 where
  pub sound : HasTrail clauses trail
  pub range : All (InRange (length trail.values.items)) clauses
  pub size : length a.marks.items ≡ length trail.lits.items
  pub first : (p : ℕ) → Contains trail.starts.items p → a.first ≤ p
  pub last : (p : ℕ) → Contains trail.starts.items p → p ≤ a.start
  pub there : Contains trail.starts.items a.start

-- no consistent set that settles the clauses holds every marked literal
abbrev pub Refutes : List (List Lit) → (Lit → Bool) → Type 0
Refutes clauses marked = (s : Lit → Bool) → IsConsistent s → Settles s clauses → ((l : Lit) → marked l ≡ true → s l ≡ true) → ⊥

abbrev pub cons_reason : Option ℕ → List ℕ → List ℕ
cons_reason None xs = xs
cons_reason (Some c) xs = c ∷ xs

-- the clauses that forced these literals
abbrev pub reasons : List (Option Assigned) → List Lit → List ℕ
reasons values [] = []
reasons values (l ∷ ls) = cons_reason (reason_of (value values l.var)) (reasons values ls)

-- one mark is left from the last decision on, and no consistent set that settles the clauses holds what is marked
pub record Resolves (clauses : List (List Lit)) (trail : Trail) (a : Analysis) : Type 0 where
  pub of_trail : IsOfTrail clauses trail a
  pub marking : IsMarking a
  pub lowest : a.lowest < length trail.lits.items
  pub refutes : Refutes clauses (marked trail.values.items a.marks.items (a.lowest + 1))

-- the negation of a literal of the trail below that place
abbrev pub IsNegation : Trail → ℕ → Lit → Type 0
IsNegation trail bound m = (i : ℕ) × (i < bound) × (i < length trail.lits.items) × (m ≡ negated (at trail.lits.items i))

-- the first of the others has the latest place
abbrev pub IsTop : Trail → List Lit → ℕ → Type 0
IsTop trail others bound = ((others ≡ []) × (bound ≡ 0)) ⊎ ((q : ℕ) × (bound ≡ q + 1) × (0 < length others) × (at others 0 ≡ negated (at trail.lits.items q)))

-- the negations of literals below the last decision, and of one from there on: a clause that follows
pub record LearnedIs (clauses : List (List Lit)) (trail : Trail) (learned : Learned) : Type 0 where
  pub place : ℕ
  pub inside : place < length trail.lits.items
  pub late : (p : ℕ) → Contains trail.starts.items p → p ≤ place
  pub asserted : learned.asserted ≡ negated (at trail.lits.items place)
  pub others : All (IsNegation trail learned.bound) learned.others.items
  pub start : ℕ
  pub start_in : Contains trail.starts.items start
  pub bound_le : learned.bound ≤ start
  pub top : IsTop trail learned.others.items learned.bound
  pub distinct : IsDistinct same_lit learned.others.items
  pub short : length learned.others.items < length trail.lits.items
  pub follows : Follows clauses (learned.others.items ++ learned.asserted ∷ [])

-- what stood below a decision settles the clauses
abbrev pub SettlesAtStarts : List (List Lit) → Trail → Type 0
SettlesAtStarts clauses trail = (p : ℕ) → Contains trail.starts.items p → Settles (before trail.values.items p) clauses
