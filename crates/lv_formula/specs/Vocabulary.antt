-- What a vocabulary says of a symbol, and when it is sound.
use Rattle.std.specs.Prelude.{ℕ, ◌≢◌, ◌<◌, ◌≤◌, cond, List, [], ◌∷◌, ◌++◌, length, map, All, AllPairs, IsPermutation, Option, Some, None}
use Rattle.std.specs.Borrow.{Bor}
use Rattle.lv_formula.specs.declared.symbols.SortId.{SortId}
use Rattle.lv_formula.specs.declared.symbols.Sym.{Sym}
use Rattle.lv_formula.specs.declared.vocabulary.RelShape.{RelShape}
use Rattle.lv_formula.specs.declared.vocabulary.ConShape.{ConShape}
use Rattle.lv_formula.specs.declared.vocabulary.Vocabulary.{Vocabulary}
use Rattle.lv_formula.specs.Symbols.{sym_eq}

-- the sorts of the arguments of the relation named so
abbrev pub relation_in : List RelShape → Sym → Option (List SortId)
relation_in [] sym = None
relation_in (r ∷ rs) sym = cond (sym_eq r.sym sym) (Some r.sorts) (relation_in rs sym)

-- the sort of the constant named so
abbrev pub constant_in : List ConShape → Sym → Option SortId
constant_in [] sym = None
constant_in (c ∷ cs) sym = cond (sym_eq c.sym sym) (Some c.sort) (constant_in cs sym)

abbrev pub sorts_of_relation : Option (Bor (List SortId)) → Option (List SortId)
sorts_of_relation None = None
sorts_of_relation (Some sorts) = Some sorts.now

-- the relations and constants that the vocabulary has
abbrev pub symbols_of : Vocabulary → List Sym
symbols_of voc = map (λ r. r.sym) voc.relations ++ map (λ c. c.sym) voc.constants

-- the sorts are in range, and there are at most four of them
abbrev pub IsRelationSound : ℕ → RelShape → Type 0
IsRelationSound sorts r = (length r.sorts ≤ 4) × All (λ s. s.0 < sorts) r.sorts

-- no two symbols are the same, all sorts are in range, and the order has each symbol once
pub record IsSound (voc : Vocabulary) : Type 0 where
  pub differ : AllPairs (λ a b. a ≢ b) (symbols_of voc)
  pub relations : All (IsRelationSound voc.sorts) voc.relations
  pub constants : All (λ c. c.sort.0 < voc.sorts) voc.constants
  pub order : IsPermutation (symbols_of voc) voc.order
