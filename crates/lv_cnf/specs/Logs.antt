-- The log of a search that was given up.
use Rattle.std.specs.Prelude.{◌≡◌, ℕ, Bool, List, [], ◌∷◌, ◌++◌, length}
use Rattle.std.specs.List.{All}
use Rattle.lv_cnf.specs.declared.literal.Lit.{Lit}
use Rattle.lv_cnf.specs.Literals.{InRange, IsImplied}
use Rattle.lv_cnf.specs.Propagation.{IsConsistent, IsUndecided, Denies, Settles, Follows}

-- the clause says what unit propagation from the earlier clauses does not find: at some consistent set
-- that settles them all literals of the clause but the last are false, and the last is undecided
pub record IsNew (earlier : List (List Lit)) (clause : List Lit) : Type 0 where
  pub front : List Lit
  pub last : Lit
  pub is : clause ≡ front ++ last ∷ []
  pub set : Lit → Bool
  pub consistent : IsConsistent set
  pub denies : Denies set front
  pub undecided : IsUndecided set last
  pub settles : Settles set earlier

-- each clause is new after the earlier ones and those before it
abbrev pub AreNew : List (List Lit) → List (List Lit) → Type 0
AreNew earlier [] = Unit {0}
AreNew earlier (clause ∷ log) = IsNew earlier clause × AreNew (earlier ++ clause ∷ []) log

-- the log of a search that may learn so many clauses, and learned them all
pub record IsSpentLog (vars : ℕ) (clauses : List (List Lit)) (budget : ℕ) (log : List (List Lit)) : Type 0 where
  pub count : length log ≡ budget
  pub in_range : All (InRange vars) log
  pub implied : All (IsImplied clauses) log
  pub new : AreNew clauses log

-- each clause follows by unit propagation from the earlier ones and those before it
abbrev pub AllFollow : List (List Lit) → List (List Lit) → Type 0
AllFollow earlier [] = Unit {0}
AllFollow earlier (clause ∷ log) = Follows earlier clause × AllFollow (earlier ++ clause ∷ []) log
