-- Literals and clauses under an assignment of the variables.
use Rattle.std.specs.Prelude.{ℕ, ◌<◌, Bool, true, false, not, IsTrue, List, slice_index_or}
use Rattle.std.specs.List.{All, Contains, list_any, list_all}
use Rattle.lv_cnf.specs.declared.literal.Lit.{Lit}

abbrev pub positive_literal : ℕ → Lit
positive_literal var = record { var = var; positive = true }

abbrev pub negative_literal : ℕ → Lit
negative_literal var = record { var = var; positive = false }

-- the literal that is true exactly where l is false
abbrev pub negated : Lit → Lit
negated l = record { var = l.var; positive = not l.positive }

-- each variable of the clause is below vars
abbrev pub InRange : ℕ → List Lit → Type 0
InRange vars clause = All (λ l. l.var < vars) clause

-- the clause has no literal beside its negation
abbrev pub IsNoTautology : List Lit → Type 0
IsNoTautology clause = (l : Lit) → Contains clause l → Contains clause (negated l) → ⊥

-- a truth value, or its negation
abbrev pub signed : Bool → Bool → Bool
signed true b = b
signed false b = not b

abbrev pub literal_truth : (ℕ → Bool) → Lit → Bool
literal_truth a l = signed l.positive (a l.var)

-- whether some literal is true
abbrev pub clause_truth : (ℕ → Bool) → List Lit → Bool
clause_truth a clause = list_any (literal_truth a) clause

-- whether each clause is true
abbrev pub clauses_truth : (ℕ → Bool) → List (List Lit) → Bool
clauses_truth a clauses = list_all (clause_truth a) clauses

abbrev pub Satisfies : (ℕ → Bool) → List (List Lit) → Type 0
Satisfies a clauses = IsTrue (clauses_truth a clauses)

abbrev pub IsSatisfiable : List (List Lit) → Type 0
IsSatisfiable clauses = (a : ℕ → Bool) × Satisfies a clauses

-- the clause is true in each assignment that satisfies the clauses
abbrev pub IsImplied : List (List Lit) → List Lit → Type 0
IsImplied clauses clause = (a : ℕ → Bool) → Satisfies a clauses → IsTrue (clause_truth a clause)

-- a list of truth values as an assignment
abbrev pub assignment_of : List Bool → ℕ → Bool
assignment_of values var = slice_index_or values var false
