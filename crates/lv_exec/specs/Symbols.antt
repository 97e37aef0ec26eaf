-- Structures that have a vocabulary's symbols, maybe beside others, and structures with the same symbols.
use Rattle.std.specs.Prelude.{◌≡◌, List, length, map, Some}
use Rattle.lv_formula.specs.declared.symbols.SortId.{SortId}
use Rattle.lv_formula.specs.declared.symbols.Sym.{Sym}
use Rattle.lv_formula.specs.declared.vocabulary.Vocabulary.{Vocabulary}
use Rattle.lv_formula.specs.Vocabulary.{relation_in, constant_in}
use Rattle.lv_struct.specs.Tables.{Tables, relation_shape, constant_shape, sorts_in, sort_in}

-- the structure has the vocabulary's sorts, and its symbols with their shapes
pub record HasSymbols (voc : Vocabulary) (w : Tables) : Type 0 where
  pub count : length w.sizes ≡ voc.sorts
  pub relations : (r : Sym) (sorts : List SortId) → relation_in voc.relations r ≡ Some sorts → sorts_in w r ≡ Some sorts
  pub constants : (c : Sym) (sort : SortId) → constant_in voc.constants c ≡ Some sort → sort_in w c ≡ Some sort

-- both have the same sizes, and the same symbols with the same shapes in the same order
pub record SameSymbols (v w : Tables) : Type 0 where
  pub sizes : w.sizes ≡ v.sizes
  pub relations : map relation_shape w.relations ≡ map relation_shape v.relations
  pub constants : map constant_shape w.constants ≡ map constant_shape v.constants
