-- What holds while a watch list is walked: what was passed, what was not touched yet, and the lists in between.
use Rattle.std.specs.Prelude.{◌≡◌, ℕ, ◌+◌, ◌*◌, ◌<◌, ◌≤◌, Bool, List, ◌⊎◌, length, slice_index, take, Option}
use Rattle.std.specs.List.{Contains}
use Rattle.lv_cnf.specs.declared.literal.Lit.{Lit}
use Rattle.lv_watch.specs.declared.trail.Assigned.{Assigned}
use Rattle.lv_watch.specs.Values.{held}
use Rattle.lv_cnf.specs.Packed.{at, clause_at}
use Rattle.lv_watch.specs.Visit.{Pair}
use Rattle.lv_watch.specs.Lists.{slot, list_at, IsApart, IsWatched, IsWatch, Permutes, lengths_at, AllPairs, Within, Propagates}

-- the places from here on stand for clauses that were not touched
abbrev pub Untouched : List (List Lit) → List (List Lit) → List ℕ → ℕ → Type 0
Untouched old new list place =
    (k : ℕ) → place ≤ k → k < length list → clause_at new (slice_index list k) ≡ clause_at old (slice_index list k)

-- what was so of sets that were held before is so still
abbrev pub KeepsPairs : List (Option Assigned) → List (List Lit) → List (List Lit) → Type 0
KeepsPairs values old new =
    (s t : Lit → Bool) → Within s (held values) → Within t (held values) → AllPairs s t old → AllPairs s t new

-- the clauses, the reads and the pairs so far
pub record Walks (old new : List (List Lit)) (values now : List (Option Assigned)) (list : List ℕ) (place base read : ℕ) : Type 0 where
  pub permutes : Permutes old new
  pub untouched : Untouched old new list place
  pub cost : read ≤ base + lengths_at old (take place list)
  pub grown : Within (held values) (held now)
  pub pairs : KeepsPairs values old new

-- each clause of two or more literals that watches gone is in the list
abbrev pub IsComplete : List (List Lit) → Lit → List ℕ → Type 0
IsComplete clauses gone list = (i : ℕ) → i < length clauses → 2 ≤ length (clause_at clauses i) →
    (at (clause_at clauses i) 0 ≡ gone) ⊎ (at (clause_at clauses i) 1 ≡ gone) → (k : ℕ) × (k < length list) × (slice_index list k ≡ i)

-- no clause watches one literal twice
abbrev pub HasNoTwins : List (List Lit) → Type 0
HasNoTwins clauses = (i : ℕ) → i < length clauses → 2 ≤ length (clause_at clauses i) → at (clause_at clauses i) 0 ≡ at (clause_at clauses i) 1 → ⊥

-- the place of i, if it has one, is before that place
abbrev pub IsPassed : List ℕ → ℕ → ℕ → Type 0
IsPassed list place i = (k : ℕ) → place ≤ k → k < length list → slice_index list k ≡ i → ⊥

-- once the negation of gone is propagated: the pairs of the clauses that were passed
pub record Reaches (values now : List (Option Assigned)) (old new : List (List Lit)) (gone : Lit) (list : List ℕ) (place : ℕ) (s s' : Lit → Bool) : Type 0 where
  pub pairs : (i : ℕ) → i < length new → 2 ≤ length (clause_at new i) → IsPassed list place i → Pair s' (held now) (clause_at new i)

abbrev pub ReachesAll : List (Option Assigned) → List (Option Assigned) → List (List Lit) → List (List Lit) → Lit → List ℕ → ℕ → Type 0
ReachesAll values now old new gone list place =
    (s s' : Lit → Bool) → Propagates values old gone s s' → Reaches values now old new gone list place s s'

-- an index but for the clauses of the list from that place on, which were taken from the list of gone
pub record IsIndexBut (vars : ℕ) (clauses : List (List Lit)) (lists : List (List ℕ)) (gone : Lit) (list : List ℕ) (place : ℕ) : Type 0 where
  pub slots : length lists ≡ 2 * vars
  pub complete : (i : ℕ) → i < length clauses → 2 ≤ length (clause_at clauses i) → (l : Lit) → IsWatch clauses i l →
      Contains (list_at lists (slot l)) i ⊎ ((l ≡ gone) × (k : ℕ) × (place ≤ k) × (k < length list) × (slice_index list k ≡ i))
  pub sound : (l : Lit) → l.var < vars → (i : ℕ) → Contains (list_at lists (slot l)) i → IsWatched clauses l i
  pub apart : (l : Lit) → l.var < vars → IsApart (list_at lists (slot l))
  pub fresh : (i : ℕ) → Contains (list_at lists (slot gone)) i → IsPassed list place i

-- the watch list of gone before the walk
pub record Listed (clauses : List (List Lit)) (lists : List (List ℕ)) (values : List (Option Assigned)) (gone : Lit) : Type 0 where
  pub small : gone.var < length values
  pub apart : IsApart (list_at lists (slot gone))
  pub watched : (k : ℕ) → k < length (list_at lists (slot gone)) → IsWatched clauses gone (slice_index (list_at lists (slot gone)) k)
  pub complete : IsComplete clauses gone (list_at lists (slot gone))
  pub twins : HasNoTwins clauses
