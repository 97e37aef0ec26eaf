-- What holds of clauses and logs, whatever they are.
use Rattle.std.specs.Prelude.{◌↔◌, ℕ, ◌<◌, ◌^◌, Bool, List}
use Rattle.std.specs.List.{All, AllPairs, Contains}
use Rattle.lv_cnf.specs.declared.literal.Lit.{Lit}
use Rattle.lv_cnf.specs.Literals.{InRange, IsNoTautology, Satisfies}
use Rattle.lv_cnf.specs.Logs.{IsSpentLog}
use Rattle.lv_cnf.specs.Nodes.{PlainProps, AtomsBelow, SatisfiesAll, clauses_of, with_nodes}

-- ---- clauses of propositions

abbrev pub NodesExtendAssignments : Type 0
NodesExtendAssignments =
    (atoms : ℕ) (roots : PlainProps) (equalities : List (List Lit)) (a : ℕ → Bool) → AtomsBelow atoms roots → All (InRange atoms) equalities
    → SatisfiesAll a roots equalities → Satisfies (with_nodes atoms a roots) (clauses_of atoms roots equalities)

abbrev pub SolutionsSatisfyRoots : Type 0
SolutionsSatisfyRoots =
    (atoms : ℕ) (roots : PlainProps) (equalities : List (List Lit)) (a : ℕ → Bool)
    → Satisfies a (clauses_of atoms roots equalities) → SatisfiesAll a roots equalities

-- ---- logs

-- the clauses have the same literals
abbrev pub SameLiterals : List Lit → List Lit → Type 0
SameLiterals c d = (l : Lit) → Contains c l ↔ Contains d l

abbrev pub LogClausesDiffer : Type 0
LogClausesDiffer =
    (vars : ℕ) (clauses : List (List Lit)) (budget : ℕ) (log : List (List Lit)) → IsSpentLog vars clauses budget log
    → AllPairs (λ c d. SameLiterals c d → ⊥) log

abbrev pub LogClausesAreNoTautologies : Type 0
LogClausesAreNoTautologies =
    (vars : ℕ) (clauses : List (List Lit)) (budget : ℕ) (log : List (List Lit)) → IsSpentLog vars clauses budget log
    → All IsNoTautology log

abbrev pub LogsAreShort : Type 0
LogsAreShort =
    (vars : ℕ) (clauses : List (List Lit)) (budget : ℕ) (log : List (List Lit)) → IsSpentLog vars clauses budget log
    → budget < 3 ^ vars
