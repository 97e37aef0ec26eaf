-- Rounds of a labelled run, projections to a set of elements, and the bound on the number of rounds.
use Rattle.std.specs.Prelude.{◌≡◌, ℕ, zero, suc, ◌*◌, ◌^◌, ◌<◌, ◌≤◌, Bool, true, cond, List, [], ◌∷◌, length, reverse}
use Rattle.lv_formula.specs.declared.symbols.SortId.{SortId}
use Rattle.lv_formula.specs.Tuples.{over}
use Rattle.lv_formula.specs.Truth.{truth_in}
use Rattle.lv_system.specs.declared.parts.Symbol.{Symbol}
use Rattle.lv_system.specs.declared.parts.Shape.{Shape}
use Rattle.lv_system.specs.declared.parts.Shape.TheVariants.{Relation, Constant}
use Rattle.lv_system.specs.Step.{symbol_at}
use Rattle.lv_labels.specs.Problem.{Problem, justice_at, label_at}
use Rattle.lv_labels.specs.Runs.{Run, touched}

-- for each justice condition and each tuple over the elements touched at i, the condition is true of the tuple at some
-- position from i on and before j
abbrev pub IsRound : Problem → Run → ℕ → ℕ → Type 0
IsRound q r i j = (c : ℕ) → c < length q.justice → (tuple : List ℕ) → over (touched q r i) (justice_at q c).sorts tuple ≡ true
    → (k : ℕ) × (i ≤ k) × (k < j) × (truth_in (r.at k) (justice_at q c).body (reverse tuple) ≡ true)

-- one round after another from i on, ending at these positions, none past the last
abbrev pub AreRounds : Problem → Run → ℕ → List ℕ → Type 0
AreRounds q r i [] = Unit {0}
AreRounds q r i (j ∷ js) = (i < j) × (j ≤ r.last) × IsRound q r i j × AreRounds q r j js

-- how many numbers below n the set has
abbrev pub how_many : (ℕ → Bool) → ℕ → ℕ
how_many set zero = 0
how_many set (suc n) = cond (set n) (suc (how_many set n)) (how_many set n)

-- the product of the first n factors
abbrev pub product : ℕ → (ℕ → ℕ) → ℕ
product zero factor = 1
product (suc n) factor = product n factor * factor n

-- how many tuples of the sorts there are over the set, where a sort has so many elements
abbrev pub number_of_tuples : (SortId → ℕ → Bool) → (SortId → ℕ) → List SortId → ℕ
number_of_tuples set size [] = 1
number_of_tuples set size (s ∷ ss) = how_many (set s) (size s) * number_of_tuples set size ss

-- in how many ways a symbol of this shape can look on the set: a relation by its tuples, a constant by its element or by being outside
abbrev pub ways_of_shape : (SortId → ℕ → Bool) → (SortId → ℕ) → Shape → ℕ
ways_of_shape set size (Relation sorts) = 2 ^ number_of_tuples set size sorts
ways_of_shape set size (Constant sort) = suc (how_many (set sort) (size sort))

-- a fixed symbol is in no projection
abbrev pub ways_of : (SortId → ℕ → Bool) → (SortId → ℕ) → Symbol → ℕ
ways_of set size s = cond s.fixed 1 (ways_of_shape set size s.shape)

-- how many projections to the set are possible
abbrev pub valuations : Problem → (SortId → ℕ → Bool) → (SortId → ℕ) → ℕ
valuations q set size = product (length q.parts.symbols) (λ n. ways_of set size (symbol_at q.parts n)) * product (length q.labels) (λ l. 2 ^ number_of_tuples set size (label_at q l).sorts)

-- after a first round that ends at f, a labelled run has at most as many rounds as the elements touched at f have valuations
abbrev pub IsBounded : Problem → Run → Type 0
IsBounded q r = (f : ℕ) (ends : List ℕ) → AreRounds q r 0 (f ∷ ends) → length ends ≤ valuations q (touched q r f) (r.at 0).size
