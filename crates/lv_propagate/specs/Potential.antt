-- What pays for reads: a clause of n literals has paid n for each of its literals that is false.
use Rattle.std.specs.Prelude.{ℕ, ◌+◌, ◌*◌, Bool, true, false, List, [], ◌∷◌, length}
use Rattle.lv_cnf.specs.declared.literal.Lit.{Lit}
use Rattle.lv_cnf.specs.Literals.{negated}

abbrev pub one_if : Bool → ℕ
one_if true = 1
one_if false = 0

-- how many of the literals are false in s
abbrev pub falses : (Lit → Bool) → List Lit → ℕ
falses s [] = 0
falses s (m ∷ c) = one_if (s (negated m)) + falses s c

-- what the clauses have paid where the literals of s are propagated
abbrev pub potential : (Lit → Bool) → List (List Lit) → ℕ
potential s [] = 0
potential s (c ∷ cs) = length c * falses s c + potential s cs

-- the sum of the squares of the lengths
abbrev pub squares : List (List Lit) → ℕ
squares [] = 0
squares (c ∷ cs) = length c * length c + squares cs
