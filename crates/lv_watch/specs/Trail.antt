-- The trail: the literals that hold, in the order in which they were made true.
use Rattle.std.specs.Prelude.{◌≡◌, ℕ, ◌<◌, ◌≤◌, true, List, [], ◌∷◌, ◌++◌, ◌⊎◌, length, Option, Some, None, slice_index_or, slice_set, map, take}
use Rattle.std.specs.List.{All, Contains}
use Rattle.lv_cnf.specs.declared.literal.Lit.{Lit}
use Rattle.lv_cnf.specs.Literals.{negated}
use Rattle.lv_cnf.specs.Packed.{at, clause_at}
use Rattle.lv_watch.specs.declared.trail.Assigned.{Assigned}
use Rattle.lv_watch.specs.declared.trail.Trail.{Trail}
use Rattle.lv_watch.specs.Values.{value, keeps, before, Extends}

-- where a level starts: the place of its decision
abbrev pub start_at : List ℕ → ℕ → ℕ
start_at starts i = slice_index_or starts i 0

-- a literal is made true at the end
pub record Assigns (old new : Trail) (l : Lit) (reason : Option ℕ) : Type 0 where
  pub values : new.values.items ≡ slice_set old.values.items l.var (Some (record { positive = l.positive; place = length old.lits.items; reason = reason }))
  pub lits : new.lits.items ≡ old.lits.items ++ l ∷ []
  pub starts : new.starts.items ≡ old.starts.items

-- so many levels start below that place, and the next one, if any, does not
pub record IsSplit (starts : List ℕ) (bound count : ℕ) : Type 0 where
  pub count_le : count ≤ length starts
  pub below : (i : ℕ) → i < count → start_at starts i < bound
  pub above : count < length starts → bound ≤ start_at starts count

-- some level starts at that place or later
abbrev pub HasStart : List ℕ → ℕ → Type 0
HasStart starts bound = (i : ℕ) × (i < length starts) × (bound ≤ start_at starts i)

-- the first level that starts at bound or later is taken back, with all levels above it
pub record BackjumpsTo (old new : Trail) (bound : ℕ) : Type 0 where
  pub count : ℕ
  pub there : count < length old.starts.items
  pub split : IsSplit old.starts.items bound count
  pub starts : new.starts.items ≡ take count old.starts.items
  pub lits : new.lits.items ≡ take (start_at old.starts.items count) old.lits.items
  pub values : new.values.items ≡ map (keeps (start_at old.starts.items count)) old.values.items

-- m is l, or false below that place
abbrev pub IsPast : List (Option Assigned) → ℕ → Lit → Lit → Type 0
IsPast values place l m = (m ≡ l) ⊎ (before values place (negated m) ≡ true)

-- the clause forces l: it has l, and its other literals are false below that place
pub record IsReason (clauses : List (List Lit)) (values : List (Option Assigned)) (l : Lit) (place c : ℕ) : Type 0 where
  pub there : c < length clauses
  pub has : Contains (clause_at clauses c) l
  pub others : All (IsPast values place l) (clause_at clauses c)

-- where a value comes from: a decision, or a clause
abbrev pub Comes : List (List Lit) → List (Option Assigned) → List ℕ → Lit → ℕ → Option ℕ → Type 0
Comes clauses values starts l place None = Contains starts place
Comes clauses values starts l place (Some c) = IsReason clauses values l place c

-- the trail has just the literals that hold, each at its place, with where it comes from
pub record IsTrail (clauses : List (List Lit)) (values : List (Option Assigned)) (lits : List Lit) (starts : List ℕ) : Type 0 where
  pub placed : (i : ℕ) → i < length lits →
      (h : Assigned) × (value values (at lits i).var ≡ Some h) × (h.positive ≡ (at lits i).positive) × (h.place ≡ i)
  pub back : (v : ℕ) (h : Assigned) → value values v ≡ Some h → (h.place < length lits) × (at lits h.place ≡ record { var = v; positive = h.positive })
  pub comes : (v : ℕ) (h : Assigned) → value values v ≡ Some h → Comes clauses values starts (record { var = v; positive = h.positive }) h.place h.reason
  pub rising : (i j : ℕ) → i < j → j < length starts → start_at starts i < start_at starts j
  pub inside : (i : ℕ) → i < length starts → start_at starts i < length lits

-- more literals were made true, and no decision
pub record Lengthens (old new : Trail) : Type 0 where
  pub extends : Extends (length old.lits.items) old.values.items new.values.items
  pub starts : new.starts.items ≡ old.starts.items
  pub longer : length old.lits.items ≤ length new.lits.items
  pub same : (i : ℕ) → i < length old.lits.items → at new.lits.items i ≡ at old.lits.items i

-- the trail is sound for these clauses
abbrev pub HasTrail : List (List Lit) → Trail → Type 0
HasTrail clauses trail = IsTrail clauses trail.values.items trail.lits.items trail.starts.items
