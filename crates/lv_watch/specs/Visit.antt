-- A visit to a clause. Its watched literals are those at places 0 and 1.
use Rattle.std.specs.Prelude.{◌≡◌, ℕ, ◌<◌, ◌≤◌, Bool, true, false, List, ◌⊎◌, length, Option, Some, None}
use Rattle.lv_cnf.specs.declared.literal.Lit.{Lit}
use Rattle.lv_cnf.specs.Packed.{at, clause_at}
use Rattle.lv_cnf.specs.Literals.{negated}
use Rattle.lv_watch.specs.declared.trail.Assigned.{Assigned}
use Rattle.std.specs.List.Sorted.{IsPermutation}
use Rattle.lv_watch.specs.declared.visit.Visit.{Visit}
use Rattle.lv_watch.specs.declared.visit.Visit.TheVariants.{Kept, Moved, Unit as UnitAt, Conflict}
use Rattle.lv_watch.specs.Values.{value, held}

-- the negation of l holds
abbrev pub IsFalse : List (Option Assigned) → Lit → Type 0
IsFalse values l = held values (negated l) ≡ true

-- a place from 2 on with its literal, which is not false; none where all of them are
abbrev pub ReplacementIs : List (Option Assigned) → List Lit → Option (ℕ × Lit) → Type 0
ReplacementIs values lits None = (k : ℕ) → 2 ≤ k → k < length lits → IsFalse values (at lits k)
ReplacementIs values lits (Some p) = (2 ≤ p.0) × (p.0 < length lits) × (p.1 ≡ at lits p.0) × (held values (negated p.1) ≡ false)

-- x is the watched literal beside gone
abbrev pub IsOther : List Lit → Lit → Lit → Type 0
IsOther lits gone x = ((at lits 0 ≡ gone) × (x ≡ at lits 1)) ⊎ ((at lits 1 ≡ gone) × (x ≡ at lits 0))

-- gone is brought to place 1
pub record Turns (old new : List (List Lit)) (i : ℕ) (gone : Lit) : Type 0 where
  pub count : length new ≡ length old
  pub others : (j : ℕ) → (j ≡ i → ⊥) → clause_at new j ≡ clause_at old j
  pub permuted : IsPermutation (clause_at old i) (clause_at new i)
  pub other : IsOther (clause_at old i) gone (at (clause_at new i) 0)
  pub gone_at : at (clause_at new i) 1 ≡ gone
  pub same_length : length (clause_at new i) ≡ length (clause_at old i)

-- the clause after the visit, for each outcome
abbrev pub OutcomeIs : List Lit → List (Option Assigned) → Lit → Visit → Type 0
OutcomeIs lits values gone Kept = (at lits 1 ≡ gone) × (held values (at lits 0) ≡ true)
OutcomeIs lits values gone (Moved l) = (at lits 1 ≡ l) × (held values (negated l) ≡ false)
OutcomeIs lits values gone (UnitAt l) =
    (at lits 0 ≡ l) × (at lits 1 ≡ gone) × (value values l.var ≡ None) × ((k : ℕ) → 1 ≤ k → k < length lits → IsFalse values (at lits k))
OutcomeIs lits values gone Conflict = (at lits 1 ≡ gone) × ((k : ℕ) → k < length lits → IsFalse values (at lits k))

-- one clause is visited: its literals are put into another order, and no other clause changes
pub record VisitIs (old new : List (List Lit)) (values : List (Option Assigned)) (i : ℕ) (gone : Lit) (outcome : Visit) : Type 0 where
  pub count : length new ≡ length old
  pub others : (j : ℕ) → (j ≡ i → ⊥) → clause_at new j ≡ clause_at old j
  pub permuted : IsPermutation (clause_at old i) (clause_at new i)
  pub other : IsOther (clause_at old i) gone (at (clause_at new i) 0)
  pub outcome_is : OutcomeIs (clause_at new i) values gone outcome

-- where one watched literal is false in s, the other is in t
abbrev pub Pair : (Lit → Bool) → (Lit → Bool) → List Lit → Type 0
Pair s t lits = (s (negated (at lits 0)) ≡ true → t (at lits 1) ≡ true) × (s (negated (at lits 1)) ≡ true → t (at lits 0) ≡ true)
