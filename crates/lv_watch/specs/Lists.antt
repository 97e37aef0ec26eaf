-- The watch lists, and what is kept of watched literals.
use Rattle.std.specs.Prelude.{◌≡◌, ℕ, ◌+◌, ◌*◌, ◌<◌, ◌≤◌, Bool, true, List, [], ◌∷◌, ◌⊎◌, length, slice_index_or, slice_index, Option, Some}
use Rattle.std.specs.Prelude.{None, if◌then◌else◌}
use Rattle.std.specs.List.{Contains, IsDistinct}
use Rattle.std.proofs.Common.{eqb, ◌&&◌}
use Rattle.std.proofs.Math.Bool.{beq}
use Rattle.std.specs.List.Sorted.{IsPermutation}
use Rattle.lv_cnf.specs.declared.literal.Lit.{Lit}
use Rattle.lv_cnf.specs.Literals.{negated}
use Rattle.lv_watch.specs.declared.trail.Assigned.{Assigned}
use Rattle.lv_watch.specs.Values.{held}
use Rattle.lv_cnf.specs.Packed.{at, clause_at}
use Rattle.lv_watch.specs.Visit.{Pair, IsFalse}

-- where the watch list of a literal stands
abbrev pub slot : Lit → ℕ
slot l = 2 * l.var + (if l.positive then 1 else 0)

-- a watch list; a place past the end has the empty one
abbrev pub list_at : List (List ℕ) → ℕ → List ℕ
list_at lists i = slice_index_or lists i []

-- no place twice
abbrev pub IsApart : List ℕ → Type 0
IsApart list = (j k : ℕ) → j < k → k < length list → slice_index list j ≡ slice_index list k → ⊥

-- a clause of at least two literals that watches l
pub record IsWatched (clauses : List (List Lit)) (l : Lit) (i : ℕ) : Type 0 where
  pub there : i < length clauses
  pub two : 2 ≤ length (clause_at clauses i)
  pub watched : (at (clause_at clauses i) 0 ≡ l) ⊎ (at (clause_at clauses i) 1 ≡ l)

-- the same clauses with their literals in other orders
pub record Permutes (old new : List (List Lit)) : Type 0 where
  pub count : length new ≡ length old
  pub each : (i : ℕ) → IsPermutation (clause_at old i) (clause_at new i)

-- the sum of the lengths of these clauses
abbrev pub lengths_at : List (List Lit) → List ℕ → ℕ
lengths_at clauses [] = 0
lengths_at clauses (i ∷ is) = length (clause_at clauses i) + lengths_at clauses is

-- in each clause of two or more literals: where one watched literal is false in s, the other is in t
abbrev pub AllPairs : (Lit → Bool) → (Lit → Bool) → List (List Lit) → Type 0
AllPairs s t clauses = (i : ℕ) → i < length clauses → 2 ≤ length (clause_at clauses i) → Pair s t (clause_at clauses i)

-- the first set has no literal that the second has not
abbrev pub Within : (Lit → Bool) → (Lit → Bool) → Type 0
Within a b = (l : Lit) → a l ≡ true → b l ≡ true

-- what is known of two sets before the negation of gone is propagated: s is held, s' has at most that literal beside it, and where
-- one watched literal is false in s, the other is held
pub record Propagates (values : List (Option Assigned)) (clauses : List (List Lit)) (gone : Lit) (s s' : Lit → Bool) : Type 0 where
  pub within : Within s (held values)
  pub more : (l : Lit) → s' l ≡ true → (s l ≡ true) ⊎ (l ≡ negated gone)
  pub pairs : AllPairs s (held values) clauses

-- once it is propagated and no clause came out false: where one watched literal is false in such an s', the other is held now
abbrev pub PairsNow : List (Option Assigned) → List (Option Assigned) → List (List Lit) → List (List Lit) → Lit → Type 0
PairsNow values now old new gone = (s s' : Lit → Bool) → Propagates values old gone s s' → AllPairs s' (held now) new

-- what the walk over the watch list of gone ends with. None: the negation of gone is propagated; some clause: it is false
abbrev pub WalkIs : List (Option Assigned) → List (Option Assigned) → List (List Lit) → List (List Lit) → Lit → Option ℕ → Type 0
WalkIs values now old new gone None = PairsNow values now old new gone
WalkIs values now old new gone (Some i) =
    (i < length new) × ((k : ℕ) → k < length (clause_at new i) → IsFalse now (at (clause_at new i) k))

-- l is one of the two watched literals of the clause
abbrev pub IsWatch : List (List Lit) → ℕ → Lit → Type 0
IsWatch clauses i l = (at (clause_at clauses i) 0 ≡ l) ⊎ (at (clause_at clauses i) 1 ≡ l)

-- each clause of two or more literals is in the watch lists of its two watched literals, once in each, and in no other
pub record IsIndex (vars : ℕ) (clauses : List (List Lit)) (lists : List (List ℕ)) : Type 0 where
  pub slots : length lists ≡ 2 * vars
  pub complete : (i : ℕ) → i < length clauses → 2 ≤ length (clause_at clauses i) → (l : Lit) → IsWatch clauses i l → Contains (list_at lists (slot l)) i
  pub sound : (l : Lit) → l.var < vars → (i : ℕ) → Contains (list_at lists (slot l)) i → IsWatched clauses l i
  pub apart : (l : Lit) → l.var < vars → IsApart (list_at lists (slot l))

abbrev pub same_lit : Lit → Lit → Bool
same_lit a b = eqb a.var b.var && beq a.positive b.positive

-- no clause has a literal twice
abbrev pub AllDistinct : List (List Lit) → Type 0
AllDistinct clauses = (i : ℕ) → i < length clauses → IsDistinct same_lit (clause_at clauses i)
