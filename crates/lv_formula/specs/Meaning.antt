-- A structure as functions. Laws over structures speak of this record, and so do definitions, where they don't
-- ask for structures as data.
use Rattle.std.specs.Prelude.{◌≡◌, ℕ, ◌<◌, Bool, true, ltb, List, Some}
use Rattle.lv_formula.specs.declared.symbols.SortId.{SortId}
use Rattle.lv_formula.specs.declared.symbols.Sym.{Sym}
use Rattle.lv_formula.specs.declared.vocabulary.Vocabulary.{Vocabulary}
use Rattle.lv_formula.specs.Vocabulary.{relation_in, constant_in}
use Rattle.lv_formula.specs.Tuples.{over}

-- how many elements a sort has, which tuples a relation has, and which element a constant is
pub record Meaning : Type 0 where
  pub size : SortId → ℕ
  pub holds : Sym → List ℕ → Bool
  pub value : Sym → ℕ

-- the elements of a sort are the numbers below its size
abbrev pub is_element : Meaning → SortId → ℕ → Bool
is_element m s x = ltb x (m.size s)

-- there are as many numbers as sorts, and each is an element of its sort
abbrev pub in_range : Meaning → List SortId → List ℕ → Bool
in_range m = over (is_element m)

-- no sort is empty, and each constant of the vocabulary is an element of its sort
pub record IsStructureOf (voc : Vocabulary) (m : Meaning) : Type 0 where
  pub sizes : (s : SortId) → 0 < m.size s
  pub constants : (c : Sym) (s : SortId) → constant_in voc.constants c ≡ Some s → m.value c < m.size s

-- both have the same elements of the vocabulary's sorts, and say the same of what it names
pub record AgreeOn (voc : Vocabulary) (m n : Meaning) : Type 0 where
  pub sizes : (s : SortId) → s.0 < voc.sorts → m.size s ≡ n.size s
  pub relations : (r : Sym) (sorts : List SortId) → relation_in voc.relations r ≡ Some sorts → (tuple : List ℕ) → in_range m sorts tuple ≡ true → m.holds r tuple ≡ n.holds r tuple
  pub constants : (c : Sym) (s : SortId) → constant_in voc.constants c ≡ Some s → m.value c ≡ n.value c
