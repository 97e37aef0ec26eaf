-- Tuples as numbers: each element is a digit, and the last one counts singly.
use Rattle.std.specs.Prelude.{◌≡◌, ℕ, zero, suc, ◌+◌, ◌*◌, ◌/◌, ◌%◌, ◌^◌, ◌<◌, ◌≤◌, Bool, false, ◌&&◌, eqb, leb, ltb, cond, List, [], ◌∷◌, length, All, Option, Some, None}
use Rattle.std.specs.List.{list_all, list_any}
use Rattle.std.specs.List.Sorted.{IsNonDecreasing}

-- an element is a digit where it is below this
abbrev pub radix : ℕ
radix = 65536

-- the number whose digits are those of a number and, behind them, the elements
abbrev pub number_from : ℕ → List ℕ → ℕ
number_from k [] = k
number_from k (x ∷ tuple) = number_from (k * radix + x) tuple

-- at most four elements, each of them a digit: the number is below 2 ^ 64
abbrev pub is_small : List ℕ → Bool
is_small tuple = leb (length tuple) 4 && list_all (λ x. ltb x radix) tuple

abbrev pub number_of : List ℕ → Option ℕ
number_of tuple = cond (is_small tuple) (Some (number_from 0 tuple)) None

-- the number of a tuple of that length
abbrev pub number_at : ℕ → List ℕ → Option ℕ
number_at arity tuple = cond (eqb (length tuple) arity) (number_of tuple) None

-- so many digits of a number, its last ones, before the elements
abbrev pub digits_before : ℕ → ℕ → List ℕ → List ℕ
digits_before zero k tuple = tuple
digits_before (suc n) k tuple = digits_before n (k / radix) ((k % radix) ∷ tuple)

-- the tuple of so many elements that has this number
abbrev pub tuple_of : ℕ → ℕ → List ℕ
tuple_of arity k = digits_before arity k []

abbrev pub has_number : List ℕ → ℕ → Bool
has_number numbers k = list_any (λ n. eqb n k) numbers

-- whether it is that number, and there is one
abbrev pub is_number : ℕ → Option ℕ → Bool
is_number k None = false
is_number k (Some n) = eqb n k

-- the same numbers in ascending order
pub record IsIndex (numbers index : List ℕ) : Type 0 where
  pub ascends : IsNonDecreasing index
  pub same : (k : ℕ) → has_number index k ≡ has_number numbers k

-- the numbers themselves, or those that are given in their place
abbrev pub index_of : List ℕ → Option (List ℕ) → List ℕ
index_of numbers None = numbers
index_of numbers (Some index) = index

-- the tuples are short, the numbers are those of tuples, and one list of them ascends
pub record AreKept (arity : ℕ) (numbers : List ℕ) (ascending : Option (List ℕ)) : Type 0 where
  pub short : arity ≤ 4
  pub below : All (λ k. k < radix ^ arity) numbers
  pub index : IsIndex numbers (index_of numbers ascending)
