-- Projections of structures to sets of elements, as to the frozen ones: when two are equal, and that they can be numbered.
use Rattle.std.specs.Prelude.{◌≡◌, ◌↔◌, ℕ, ◌<◌, ◌≤◌, Bool, true, false, List, length, Some}
use Rattle.lv_formula.specs.declared.symbols.SortId.{SortId}
use Rattle.lv_formula.specs.declared.symbols.Sym.{Sym}
use Rattle.lv_formula.specs.declared.symbols.Sym.TheVariants.{Own, Label, Copy, CopyLabel}
use Rattle.lv_formula.specs.Meaning.{Meaning}
use Rattle.lv_formula.specs.Tuples.{over}
use Rattle.lv_system.specs.Step.{symbol_at}
use Rattle.lv_system.specs.Vocabularies.{constant_sort, relation_sorts}
use Rattle.lv_labels.specs.Problem.{Problem, label_at}
use Rattle.lv_labels.specs.Rounds.{valuations}
use Rattle.lv_labels.specs.Runs.{IsLabelledRun, Run, touched}
use Rattle.lv_labels.specs.Monitor.{LooksSaved, is_kept, shown}

-- Both structures have one projection to the set: each changing relation and each label has the same tuples over the set, and
-- each changing constant is the same element of the set, or outside the set in both.
pub record LooksLike (q : Problem) (set : SortId → ℕ → Bool) (m n : Meaning) : Type 0 where
  pub relations : (r : ℕ) (sorts : List SortId) → r < length q.parts.symbols → (symbol_at q.parts r).fixed ≡ false
      → relation_sorts (symbol_at q.parts r).shape ≡ Some sorts
      → (tuple : List ℕ) → over set sorts tuple ≡ true → m.holds (Own r) tuple ≡ n.holds (Own r) tuple
  pub labels : (l : ℕ) → l < length q.labels → (tuple : List ℕ) → over set (label_at q l).sorts tuple ≡ true
      → m.holds (Label l) tuple ≡ n.holds (Label l) tuple
  pub constants : (c : ℕ) (sort : SortId) → c < length q.parts.symbols → (symbol_at q.parts c).fixed ≡ false
      → constant_sort (symbol_at q.parts c).shape ≡ Some sort
      → shown (set sort) (m.value (Own c)) ≡ shown (set sort) (n.value (Own c))

-- each element of the set is among so many
abbrev pub IsWithin : (SortId → ℕ) → (SortId → ℕ → Bool) → Type 0
IsWithin size set = (s : SortId) (e : ℕ) → set s e ≡ true → e < size s

-- each own constant of the structure is among so many elements
abbrev pub AreConstantsWithin : Problem → (SortId → ℕ) → Meaning → Type 0
AreConstantsWithin q size m = (c : ℕ) (s : SortId) → c < length q.parts.symbols
    → constant_sort (symbol_at q.parts c).shape ≡ Some s → m.value (Own c) < size s

-- A number for each projection to the set: it is below the number of valuations, and structures have one number exactly where they
-- have one projection.
pub record Numbering (q : Problem) (set : SortId → ℕ → Bool) (size : SortId → ℕ) : Type 0 where
  pub number : Meaning → ℕ
  pub below : (m : Meaning) → AreConstantsWithin q size m → number m < valuations q set size
  pub same : (m n : Meaning) → AreConstantsWithin q size m → AreConstantsWithin q size n → number m ≡ number n → LooksLike q set m n
  pub one : (m n : Meaning) → LooksLike q set m n → number m ≡ number n

-- on each labelled run the elements touched at a position and the constants there are elements of the run's sorts, as a numbering
-- asks of them
abbrev pub RunsAreWithin : Problem → Type 0
RunsAreWithin q = (r : Run) → IsLabelledRun q r → (i : ℕ) → i ≤ r.last
    → IsWithin (r.at 0).size (touched q r i) × AreConstantsWithin q (r.at 0).size (r.at i)

-- ---- the copies in a monitored structure

abbrev pub copied_holds : Meaning → Sym → List ℕ → Bool
copied_holds m (Own r) tuple = m.holds (Copy r) tuple
copied_holds m (Label l) tuple = m.holds (CopyLabel l) tuple
copied_holds m sym tuple = m.holds sym tuple

abbrev pub copied_value : Meaning → Sym → ℕ
copied_value m (Own c) = m.value (Copy c)
copied_value m sym = m.value sym

-- the structure with the copies in place of the symbols and of the labels
abbrev pub copied : Meaning → Meaning
copied m = record { size = m.size; holds = copied_holds m; value = copied_value m }

-- the state looks as it was saved where both have one projection to the kept elements
abbrev pub LooksAsCopied : Problem → Meaning → Type 0
LooksAsCopied q m = LooksSaved q m ↔ LooksLike q (is_kept m) m (copied m)
