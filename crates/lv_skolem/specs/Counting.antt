-- How code counts the terms of the sorts: from none at all the numbers rise until they stay.
use Rattle.std.specs.Prelude.{◌≡◌, ℕ, zero, suc, min, ◌+◌, ◌<◌, ◌≤◌, List, [], ◌∷◌, ◌++◌, length, Option, Some, None}
use Rattle.lv_formula.specs.declared.symbols.SortId.{SortId}
use Rattle.lv_places.specs.declared.skolem.Skolem.{Skolem}
use Rattle.lv_places.specs.Universes.{count_at, constant_terms, place_count}
use Rattle.lv_places.specs.Sizes.{at_least_one, IsCount}

-- how many terms a sort has, if the others have so many
abbrev pub number_of : Skolem → (SortId → ℕ) → SortId → ℕ
number_of sk n s = at_least_one (length (constant_terms s sk.constants) + place_count n s sk.places)

abbrev pub numbers_to : Skolem → (SortId → ℕ) → ℕ → List ℕ
numbers_to sk n zero = []
numbers_to sk n (suc k) = numbers_to sk n k ++ number_of sk n (record { 0 = k }) ∷ []

-- some sort has 160 terms or more
abbrev pub IsLarge : Skolem → (SortId → ℕ) → Type 0
IsLarge sk n = (s : SortId) × (s.0 < sk.sorts) × (160 ≤ n s)

abbrev pub AreSmall : List ℕ → Type 0
AreSmall [] = Unit {0}
AreSmall (n ∷ ns) = (n < 160) × AreSmall ns

abbrev pub total : List ℕ → ℕ
total [] = 0
total (n ∷ ns) = n + total ns

abbrev pub NextIs : Skolem → (SortId → ℕ) → Option (List ℕ) → Type 0
NextIs sk n None = (s : SortId) × (s.0 < sk.sorts) × (160 ≤ number_of sk n s)
NextIs sk n (Some next) = (next ≡ numbers_to sk n sk.sorts) × AreSmall next

-- no numbers that count the terms are smaller
abbrev pub IsLeast : Skolem → (SortId → ℕ) → Type 0
IsLeast sk n = (m : SortId → ℕ) → IsCount sk m → (s : SortId) → n s ≤ m s

-- the numbers of terms, or that some sort has too many in whatever way they are counted
abbrev pub CountsAre : Skolem → Option (List ℕ) → Type 0
CountsAre sk None = (n : SortId → ℕ) → IsCount sk n → IsLarge sk n
CountsAre sk (Some ns) = (length ns ≡ sk.sorts) × IsCount sk (count_at ns) × IsLeast sk (count_at ns)

-- a number, as far as it matters: one above the limit is as good as another
abbrev pub capped : ℕ → ℕ
capped n = min n 4000001
