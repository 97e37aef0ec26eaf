-- A structure as data: the size of each sort, the tuples of each relation, the element of each constant.
use Rattle.std.specs.Prelude.{◌≡◌, ◌≢◌, ℕ, ◌<◌, Bool, true, ltb, cond, List, [], ◌∷◌, ◌++◌, length, map, get_or, All, AllPairs, Option}
use Rattle.lv_formula.specs.declared.symbols.SortId.{SortId}
use Rattle.lv_formula.specs.declared.symbols.Sym.{Sym}
use Rattle.lv_formula.specs.declared.vocabulary.RelShape.{RelShape}
use Rattle.lv_formula.specs.declared.vocabulary.ConShape.{ConShape}
use Rattle.lv_formula.specs.declared.vocabulary.Vocabulary.{Vocabulary}
use Rattle.lv_formula.specs.Symbols.{sym_eq}
use Rattle.lv_formula.specs.Vocabulary.{relation_in, constant_in}
use Rattle.lv_struct.specs.declared.tables.Relation.{Relation}
use Rattle.lv_struct.specs.declared.tables.Constant.{Constant}
use Rattle.lv_formula.specs.Meaning.{Meaning}
use Rattle.lv_formula.specs.Tuples.{has_tuple, over}

pub record Tables : Type 0 where
  pub sizes : List ℕ
  pub relations : List Relation
  pub constants : List Constant

-- the tuples of the relation named so; a relation that is not there has none
abbrev pub tuples_in : List Relation → Sym → List (List ℕ)
tuples_in [] sym = []
tuples_in (r ∷ rs) sym = cond (sym_eq r.sym sym) r.tuples (tuples_in rs sym)

-- the element of the constant named so; a constant that is not there is element 0
abbrev pub element_in : List Constant → Sym → ℕ
element_in [] sym = 0
element_in (c ∷ cs) sym = cond (sym_eq c.sym sym) c.element (element_in cs sym)

-- the size of a sort; a sort that is not there has one element, so that no sort is empty
abbrev pub size_of : List ℕ → SortId → ℕ
size_of sizes sort = get_or sizes sort.0 1

abbrev pub size_in : Tables → SortId → ℕ
size_in w = size_of w.sizes

abbrev pub holds_in : Tables → Sym → List ℕ → Bool
holds_in w sym tuple = has_tuple (tuples_in w.relations sym) tuple

abbrev pub value_in : Tables → Sym → ℕ
value_in w sym = element_in w.constants sym

-- the structure as functions
abbrev pub meaning : Tables → Meaning
meaning w = record { size = size_in w; holds = holds_in w; value = value_in w }

abbrev pub relation_shape : Relation → RelShape
relation_shape r = record { sym = r.sym; sorts = r.sorts }

abbrev pub constant_shape : Constant → ConShape
constant_shape c = record { sym = c.sym; sort = c.sort }

-- the sorts of the relation named so, if it is there
abbrev pub sorts_in : Tables → Sym → Option (List SortId)
sorts_in w sym = relation_in (map relation_shape w.relations) sym

-- the sort of the constant named so, if it is there
abbrev pub sort_in : Tables → Sym → Option SortId
sort_in w sym = constant_in (map constant_shape w.constants) sym

-- the sorts are the vocabulary's, and so are the relations and the constants, in the order of its lists
pub record HasVocabulary (voc : Vocabulary) (w : Tables) : Type 0 where
  pub sorts : length w.sizes ≡ voc.sorts
  pub relations : map relation_shape w.relations ≡ voc.relations
  pub constants : map constant_shape w.constants ≡ voc.constants

-- there is an element for each sort, and it is in the sort's range
abbrev pub IsInRange : List ℕ → List SortId → List ℕ → Type 0
IsInRange sizes sorts tuple = over (λ s x. ltb x (size_of sizes s)) sorts tuple ≡ true

abbrev pub IsRelationSound : List ℕ → Relation → Type 0
IsRelationSound sizes r = All (IsInRange sizes r.sorts) r.tuples

abbrev pub IsConstantSound : List ℕ → Constant → Type 0
IsConstantSound sizes c = c.element < size_of sizes c.sort

abbrev pub names_in : List Relation → List Constant → List Sym
names_in relations constants = map (λ r. r.sym) relations ++ map (λ c. c.sym) constants

-- each sort has an element, tuples and constants are in range, and no two symbols are the same
pub record IsSound (w : Tables) : Type 0 where
  pub sizes : All (λ n. 0 < n) w.sizes
  pub relations : All (IsRelationSound w.sizes) w.relations
  pub constants : All (IsConstantSound w.sizes) w.constants
  pub differ : AllPairs (λ a b. a ≢ b) (names_in w.relations w.constants)
