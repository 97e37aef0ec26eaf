-- Reading a structure of a vocabulary: its tables, or the first fault of the tree.
use Rattle.std.specs.Prelude.{ℕ, zero, suc, not, eqb, ltb, List, [], ◌∷◌, length, codes, Option, Some, None, Result, Ok}
use Rattle.lv_tree.specs.declared.tree.Tree.{Tree}
use Rattle.lv_formula.specs.declared.symbols.SortId.{SortId}
use Rattle.lv_formula.specs.declared.symbols.Sym.{Sym}
use Rattle.lv_formula.specs.declared.vocabulary.Vocabulary.{Vocabulary}
use Rattle.lv_formula.specs.Vocabulary.{constant_in, relation_in}
use Rattle.lv_struct.specs.Changes.{empty_structure, with_element, with_tuples}
use Rattle.lv_struct.specs.Tables.{Tables, size_of}
use Rattle.lv_system.specs.declared.parts.Parts.{Parts}
use Rattle.lv_grammar.specs.Words.{sort_name, symbol_word}
use Rattle.lv_fault.specs.declared.fault.Kind.TheVariants.{Unexpected, TooMany, WrongArity}
use Rattle.lv_fault.specs.declared.fault.SyntaxFault.{SyntaxFault}
use Rattle.lv_reading.specs.declared.numbers.Numbered.{Numbered}
use Rattle.lv_fault.specs.Given.{◌>>=◌, ended, fail, fail_if, headed, list_in, next_of, place_of}
use Rattle.lv_reading.specs.Numbers.{element_in, exactly, exactly_in, number_in}

-- ---- sizes: (size SORT N)

abbrev pub size_from : Numbered → Result ℕ SyntaxFault
size_from n = do
  _ ← fail_if (eqb n.value 0) Unexpected n.at
  _ ← fail_if (ltb 256 n.value) TooMany n.at
  Ok n.value

unfoldable pub size_in : List ℕ → Tree → Result ℕ SyntaxFault
size_in name t = do
  l ← headed t
  _ ← exactly (codes "size") l.word
  a ← next_of l.end l.rest
  _ ← exactly_in name a.0
  b ← next_of l.end a.1
  n ← number_in b.0
  size ← size_from n
  _ ← ended b.1
  Ok size

unfoldable pub next_size : Parts → ℕ → ℕ → List Tree → Result (ℕ × List Tree) SyntaxFault
next_size p end k ts = do
  a ← next_of end ts
  size ← size_in (sort_name p (record { 0 = k })) a.0
  Ok (size, a.1)

-- the sizes of so many sorts, of which the first has the number k, at the head of a list that ends at this place, and the items
-- behind them
unfoldable pub sizes_in : Parts → ℕ → ℕ → ℕ → List Tree → Result (List ℕ × List Tree) SyntaxFault
sizes_in p end k zero ts = Ok ([], ts)
sizes_in p end k (suc n) ts = next_size p end k ts >>= λ a. sizes_in p end (suc k) n a.1 >>= λ r. Ok (a.0 ∷ r.0, r.1)

-- ---- tuples: (E ..)

-- an element of each sort, where there are as many items
unfoldable pub each_element : List ℕ → List SortId → List Tree → Result (List ℕ) SyntaxFault
each_element sizes [] ts = Ok []
each_element sizes (s ∷ ss) [] = Ok []
each_element sizes (s ∷ ss) (t ∷ ts) = element_in (size_of sizes s) t >>= λ e. each_element sizes ss ts >>= λ es. Ok (e ∷ es)

-- the items are elements of these sorts; where there is another number of them, the fault is at this place
unfoldable pub elements_in : List ℕ → List SortId → ℕ → List Tree → Result (List ℕ) SyntaxFault
elements_in sizes sorts at ts = do
  _ ← fail_if (not (eqb (length ts) (length sorts))) WrongArity at
  each_element sizes sorts ts

unfoldable pub tuple_in : List ℕ → List SortId → Tree → Result (List ℕ) SyntaxFault
tuple_in sizes sorts t = do
  l ← list_in t
  elements_in sizes sorts (place_of t) l.items

unfoldable pub tuples_in : List ℕ → List SortId → List Tree → Result (List (List ℕ)) SyntaxFault
tuples_in sizes sorts [] = Ok []
tuples_in sizes sorts (t ∷ ts) = tuple_in sizes sorts t >>= λ tuple. tuples_in sizes sorts ts >>= λ tuples. Ok (tuple ∷ tuples)

-- ---- entries: (relation WORD (E ..) ..) and (constant WORD E)

-- the tuples of a relation
unfoldable pub relation_entry : List ℕ → List SortId → List ℕ → Tree → Result (List (List ℕ)) SyntaxFault
relation_entry sizes sorts name t = do
  l ← headed t
  _ ← exactly (codes "relation") l.word
  a ← next_of l.end l.rest
  _ ← exactly_in name a.0
  tuples_in sizes sorts a.1

-- the element of a constant
unfoldable pub constant_entry : ℕ → List ℕ → Tree → Result ℕ SyntaxFault
constant_entry size name t = do
  l ← headed t
  _ ← exactly (codes "constant") l.word
  a ← next_of l.end l.rest
  _ ← exactly_in name a.0
  b ← next_of l.end a.1
  e ← element_in size b.0
  _ ← ended b.1
  Ok e

-- the structure with the tuples, or the element, of an entry
abbrev pub with_relation : Tables → List ℕ → List SortId → Sym → Tree → Result Tables SyntaxFault
with_relation w name sorts sym t = relation_entry w.sizes sorts name t >>= λ tuples. Ok (with_tuples w sym tuples)

abbrev pub with_constant : Tables → List ℕ → SortId → Sym → Tree → Result Tables SyntaxFault
with_constant w name sort sym t = constant_entry (size_of w.sizes sort) name t >>= λ element. Ok (with_element w sym element)

-- the entry of a relation with these sorts or of a constant of this sort; there is none for what is neither
abbrev pub with_entry : Tables → List ℕ → Option (List SortId) → Option SortId → Sym → Tree → Result Tables SyntaxFault
with_entry w name (Some sorts) sort sym t = with_relation w name sorts sym t
with_entry w name None (Some sort) sym t = with_constant w name sort sym t
with_entry w name None None sym t = fail Unexpected (place_of t)

unfoldable pub next_entry : Parts → Vocabulary → ℕ → Tables → Sym → List Tree → Result (Tables × List Tree) SyntaxFault
next_entry p voc end w sym ts = do
  a ← next_of end ts
  v ← with_entry w (symbol_word p sym) (relation_in voc.relations sym) (constant_in voc.constants sym) sym a.0
  Ok (v, a.1)

-- an entry for each of the symbols, and the items behind them
unfoldable pub entries_in : Parts → Vocabulary → ℕ → Tables → List Sym → List Tree → Result (Tables × List Tree) SyntaxFault
entries_in p voc end w [] ts = Ok (w, ts)
entries_in p voc end w (s ∷ ss) ts = next_entry p voc end w s ts >>= λ a. entries_in p voc end a.0 ss a.1

-- (structure (size ..) .. ENTRY ..): each sort and each symbol of the vocabulary once, in order
unfoldable pub structure_in : Parts → Vocabulary → Tree → Result Tables SyntaxFault
structure_in p voc t = do
  l ← headed t
  _ ← exactly (codes "structure") l.word
  sizes ← sizes_in p l.end 0 voc.sorts l.rest
  entries ← entries_in p voc l.end (empty_structure voc sizes.0) voc.order sizes.1
  _ ← ended entries.1
  Ok entries.0
