-- Which trees and which bytes spell which structure of a vocabulary.
use Rattle.std.specs.Prelude.{◌≡◌, ℕ, suc, ◌≤◌, List, [], ◌∷◌, ◌++◌, codes, decimal, All, Option, Some, None}
use Rattle.lv_tree.specs.declared.tree.Tree.{Tree}
use Rattle.lv_tree.specs.Spelling.{SpellsTree}
use Rattle.lv_formula.specs.declared.symbols.SortId.{SortId}
use Rattle.lv_formula.specs.declared.symbols.Sym.{Sym}
use Rattle.lv_formula.specs.declared.vocabulary.Vocabulary.{Vocabulary}
use Rattle.lv_formula.specs.Vocabulary.{relation_in}
use Rattle.lv_struct.specs.Tables.{HasVocabulary, IsInRange, IsSound, Tables, holds_in, value_in}
use Rattle.lv_formula.specs.Tuples.{has_tuple}
use Rattle.lv_system.specs.declared.parts.Parts.{Parts}
use Rattle.lv_grammar.specs.Words.{sort_name, symbol_word}
use Rattle.lv_grammar.specs.Grammar.{Each, IsList, IsWord}

-- (size SORT N)
pub record IsSize (p : Parts) (s : SortId) (n : ℕ) (t : Tree) : Type 0 where
  pub h : Tree
  pub sort : Tree
  pub number : Tree
  pub list : IsList (h ∷ sort ∷ number ∷ []) t
  pub head : IsWord (codes "size") h
  pub name : IsWord (sort_name p s) sort
  pub size : IsWord (decimal n) number
  pub few : n ≤ 256

-- one for each sort, of which the first has the number k
pub data AreSizes (p : Parts) : ℕ → List ℕ → List Tree → Type 0 where
  no_sizes : {k : ℕ} → AreSizes p k [] []
  sizes : {k n : ℕ} {ns : List ℕ} {t : Tree} {ts : List Tree} → IsSize p (record { 0 = k }) n t → AreSizes p (suc k) ns ts → AreSizes p k (n ∷ ns) (t ∷ ts)

-- (E ..)
abbrev pub IsTuple : List ℕ → Tree → Type 0
IsTuple tuple t = (items : List Tree) × IsList items t × Each (λ n a. IsWord (decimal n) a) tuple items

-- (relation WORD (E ..) ..), with the tuples of the relation in any order; one may be there more than once
pub record IsRelation (p : Parts) (w : Tables) (sorts : List SortId) (sym : Sym) (t : Tree) : Type 0 where
  pub h : Tree
  pub word : Tree
  pub items : List Tree
  pub list : IsList (h ∷ word ∷ items) t
  pub head : IsWord (codes "relation") h
  pub name : IsWord (symbol_word p sym) word
  pub tuples : List (List ℕ)
  pub listed : Each IsTuple tuples items
  pub in_range : All (IsInRange w.sizes sorts) tuples
  pub same : (tuple : List ℕ) → has_tuple tuples tuple ≡ holds_in w sym tuple

-- (constant WORD E)
pub record IsConstant (p : Parts) (w : Tables) (sym : Sym) (t : Tree) : Type 0 where
  pub h : Tree
  pub word : Tree
  pub element : Tree
  pub list : IsList (h ∷ word ∷ element ∷ []) t
  pub head : IsWord (codes "constant") h
  pub name : IsWord (symbol_word p sym) word
  pub value : IsWord (decimal (value_in w sym)) element

-- of a relation with these sorts, or else of a constant
abbrev pub IsEntryOf : Parts → Tables → Option (List SortId) → Sym → Tree → Type 0
IsEntryOf p w None sym t = IsConstant p w sym t
IsEntryOf p w (Some sorts) sym t = IsRelation p w sorts sym t

abbrev pub IsEntry : Parts → Vocabulary → Tables → Sym → Tree → Type 0
IsEntry p voc w sym t = IsEntryOf p w (relation_in voc.relations sym) sym t

-- (structure (size SORT N) .. ENTRY ..), with an entry for each symbol in order of the vocabulary
pub record IsStructure (p : Parts) (voc : Vocabulary) (w : Tables) (t : Tree) : Type 0 where
  pub h : Tree
  pub sizes : List Tree
  pub entries : List Tree
  pub list : IsList (h ∷ sizes ++ entries) t
  pub head : IsWord (codes "structure") h
  pub sized : AreSizes p 0 w.sizes sizes
  pub entered : Each (IsEntry p voc w) voc.order entries

-- the bytes spell a tree that spells the structure
pub record SpellsStructure (p : Parts) (voc : Vocabulary) (bytes : List ℕ) (w : Tables) : Type 0 where
  pub tree : Tree
  pub spelled : SpellsTree bytes tree
  pub written : IsStructure p voc w tree
  pub sound : IsSound w
  pub vocabulary : HasVocabulary voc w
