-- Tuples of elements, and lists of tuples that count as sets.
use Rattle.std.specs.Prelude.{ℕ, zero, suc, Bool, true, false, ◌&&◌, ◌||◌, eqb, ltb, List, [], ◌∷◌, ◌++◌, map}
use Rattle.lv_formula.specs.declared.symbols.SortId.{SortId}

-- there are as many of both, and each passes the test with the one at its place
abbrev pub pairwise : {X Y : Type 0} → (X → Y → Bool) → List X → List Y → Bool
pairwise p [] [] = true
pairwise p [] (y ∷ ys) = false
pairwise p (x ∷ xs) [] = false
pairwise p (x ∷ xs) (y ∷ ys) = p x y && pairwise p xs ys

abbrev pub tuple_eq : List ℕ → List ℕ → Bool
tuple_eq = pairwise eqb

abbrev pub has_tuple : List (List ℕ) → List ℕ → Bool
has_tuple [] tuple = false
has_tuple (t ∷ ts) tuple = tuple_eq t tuple || has_tuple ts tuple

-- each tuple of the first list is in the second
abbrev pub all_among : List (List ℕ) → List (List ℕ) → Bool
all_among [] us = true
all_among (t ∷ ts) us = has_tuple us t && all_among ts us

-- there are as many elements as sorts, and each is in the set that is given for its sort
abbrev pub over : (SortId → ℕ → Bool) → List SortId → List ℕ → Bool
over set = pairwise set

-- the tuples with each number below n before them, in ascending order of the number
abbrev pub each_before : ℕ → List (List ℕ) → List (List ℕ)
each_before zero tuples = []
each_before (suc n) tuples = each_before n tuples ++ map (λ t. n ∷ t) tuples

-- all tuples of the sorts in lexicographic order, where a sort has so many elements
abbrev pub tuples_over : (SortId → ℕ) → List SortId → List (List ℕ)
tuples_over size [] = [] ∷ []
tuples_over size (s ∷ ss) = each_before (size s) (tuples_over size ss)

-- the first comes before the second in lexicographic order, where both are of one length
abbrev pub tuple_lt : List ℕ → List ℕ → Bool
tuple_lt [] ys = false
tuple_lt (x ∷ xs) [] = false
tuple_lt (x ∷ xs) (y ∷ ys) = ltb x y || (eqb x y && tuple_lt xs ys)
