-- The state of propagation: how much of the trail is propagated, what changes it, and what pays for the reads.
use Rattle.std.specs.Prelude.{◌≡◌, ℕ, ◌+◌, ◌<◌, ◌≤◌, Bool, true, false, List, [], ◌∷◌, ◌++◌, length, Option, Some, None}
use Rattle.std.specs.List.{IsDistinct}
use Rattle.lv_cnf.specs.declared.literal.Lit.{Lit}
use Rattle.lv_cnf.specs.Literals.{negated, negative_literal, InRange}
use Rattle.lv_cnf.specs.Propagation.{IsConsistent, Settles, Follows}
use Rattle.lv_cnf.specs.Packed.{at, clause_at}
use Rattle.lv_watch.specs.declared.trail.Assigned.{Assigned}
use Rattle.lv_watch.specs.declared.trail.Trail.{Trail}
use Rattle.lv_propagate.specs.declared.state.State.{State}
use Rattle.lv_watch.specs.Values.{value, held, before}
use Rattle.lv_watch.specs.Visit.{IsFalse}
use Rattle.lv_watch.specs.Lists.{AllPairs, same_lit}
use Rattle.lv_watch.specs.Trail.{start_at, HasTrail}
use Rattle.lv_watch.specs.Watching.{IsWatching}
use Rattle.lv_propagate.specs.Potential.{potential, squares}

-- so much of the trail is propagated: where one watched literal is false by it, the other holds
pub record IsDone (clauses : List (List Lit)) (trail : Trail) (head : ℕ) : Type 0 where
  pub head_le : head ≤ length trail.lits.items
  pub pairs : AllPairs (before trail.values.items head) (held trail.values.items) clauses

-- watched clauses under a sound trail that is propagated up to the head
abbrev pub IsState : State → Type 0
IsState s = IsWatching s.packed s.watches s.trail × IsDone s.packed s.trail s.head

-- a conflict: all literals of the clause are false
abbrev pub IsConflict : List (List Lit) → Trail → ℕ → Type 0
IsConflict clauses trail i =
    (i < length clauses) × ((k : ℕ) → k < length (clause_at clauses i) → IsFalse trail.values.items (at (clause_at clauses i) k))

-- what propagation ends in. None: all of the trail is propagated; some clause: a conflict
abbrev pub EndsIn : State → Option ℕ → Type 0
EndsIn s None = IsDone s.packed s.trail s.head × (s.head ≡ length s.trail.lits.items)
EndsIn s (Some i) = IsConflict s.packed s.trail i

-- what the propagated literals paid
abbrev pub paid : State → ℕ
paid s = potential (before s.trail.values.items s.head) s.packed

-- the reads of a propagation are paid, and in a conflict no clause has paid more than the square of its length
abbrev pub CostIs : State → State → ℕ → ℕ → Option ℕ → Type 0
CostIs old new before' after None = after + paid old ≤ before' + paid new
CostIs old new before' after (Some i) = after + paid old ≤ before' + squares new.packed

-- the variable is decided to be false: that literal is last on the trail and begins a level, and nothing else changes
pub record Decides (old new : State) (var : ℕ) : Type 0 where
  pub state : IsState new
  pub packed : new.packed ≡ old.packed
  pub lits : new.trail.lits.items ≡ old.trail.lits.items ++ negative_literal var ∷ []
  pub starts : new.trail.starts.items ≡ old.trail.starts.items ++ length old.trail.lits.items ∷ []
  pub size : length new.trail.values.items ≡ length old.trail.values.items
  pub longer : length new.trail.lits.items ≡ length old.trail.lits.items + 1
  pub paid : paid new ≡ paid old

-- a clause whose first literal is true once the decisions from bound on are taken back: its negation came with the last
-- decision or later, and the others are false below bound, the second one latest
pub record Asserts (trail : Trail) (lits : List Lit) (bound : ℕ) : Type 0 where
  pub some : 1 ≤ length lits
  pub range : InRange (length trail.values.items) lits
  pub distinct : IsDistinct same_lit lits
  pub first : (h : Assigned) × (value trail.values.items (at lits 0).var ≡ Some h) ×
      ((i : ℕ) → i < length trail.starts.items → start_at trail.starts.items i ≤ h.place)
  pub others : (k : ℕ) → 1 ≤ k → k < length lits → before trail.values.items bound (negated (at lits k)) ≡ true
  pub second : 2 ≤ length lits → (p : ℕ) → p < bound → before trail.values.items p (negated (at lits 1)) ≡ false
  pub alone : length lits ≡ 1 → bound ≡ 0

-- a state without decisions, of which nothing is propagated yet
pub record IsFresh (s : State) : Type 0 where
  pub sound : HasTrail s.packed s.trail
  pub head : s.head ≡ 0
  pub starts : s.trail.starts.items ≡ []

-- one more clause, whose literal is true where it has but one; or none of its literals can be
pub record Adds (old new : State) (lits : List Lit) (added : Bool) : Type 0 where
  pub clauses : new.packed ≡ old.packed ++ lits ∷ []
  pub size : length new.trail.values.items ≡ length old.trail.values.items
  pub fresh : IsFresh new
  pub state : added ≡ true → IsState new
  pub conflict : added ≡ false → IsConflict new.packed new.trail (length old.packed)

-- the same sets settle them
pub record SameSettled (xs ys : List (List Lit)) : Type 0 where
  pub there : (s : Lit → Bool) → IsConsistent s → Settles s xs → Settles s ys
  pub back : (s : Lit → Bool) → IsConsistent s → Settles s ys → Settles s xs

-- these clauses are there, unless they cannot be satisfied
pub record Loads (new : State) (clauses : List (List Lit)) (loaded : Bool) : Type 0 where
  pub fresh : loaded ≡ true → IsFresh new
  pub state : loaded ≡ true → IsState new
  pub same : loaded ≡ true → SameSettled new.packed clauses
  pub short : loaded ≡ true → squares new.packed ≤ squares clauses
  pub refuted : loaded ≡ false → Follows clauses []

-- the literals that every such set holds, as those of level 0
abbrev pub Given : List (List Lit) → (Lit → Bool) → Type 0
Given clauses base = (s : Lit → Bool) → IsConsistent s → Settles s clauses → (l : Lit) → base l ≡ true → s l ≡ true
