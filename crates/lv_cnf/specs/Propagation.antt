-- Unit propagation, by the sets of literals at which it finds nothing.
use Rattle.std.specs.Prelude.{◌≡◌, Bool, true, false, List, ◌⊎◌}
use Rattle.std.specs.List.{All, Contains}
use Rattle.lv_cnf.specs.declared.literal.Lit.{Lit}
use Rattle.lv_cnf.specs.Literals.{negated}

-- no literal stands in s beside its negation
abbrev pub IsConsistent : (Lit → Bool) → Type 0
IsConsistent s = (l : Lit) → s l ≡ true → s (negated l) ≡ false

abbrev pub IsUndecided : (Lit → Bool) → Lit → Type 0
IsUndecided s l = (s l ≡ false) × (s (negated l) ≡ false)

-- s holds a literal of the clause
abbrev pub IsMet : (Lit → Bool) → List Lit → Type 0
IsMet s clause = (l : Lit) × Contains clause l × (s l ≡ true)

-- s leaves two different literals of the clause undecided
abbrev pub IsOpen : (Lit → Bool) → List Lit → Type 0
IsOpen s clause =
    (l : Lit) × (m : Lit) × Contains clause l × Contains clause m × (l ≡ m → ⊥) × IsUndecided s l × IsUndecided s m

-- unit propagation from s finds nothing at this clause
abbrev pub IsSettled : (Lit → Bool) → List Lit → Type 0
IsSettled s clause = IsMet s clause ⊎ IsOpen s clause

abbrev pub Settles : (Lit → Bool) → List (List Lit) → Type 0
Settles s clauses = All (IsSettled s) clauses

-- s holds the negation of each of these literals
abbrev pub Denies : (Lit → Bool) → List Lit → Type 0
Denies s lits = All (λ l. s (negated l) ≡ true) lits

-- the clause follows from the clauses by unit propagation
abbrev pub Follows : List (List Lit) → List Lit → Type 0
Follows clauses clause = (s : Lit → Bool) → IsConsistent s → Denies s clause → Settles s clauses → ⊥
