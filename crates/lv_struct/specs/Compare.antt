-- When two structures are the same, as a fact and as a test that computes.
use Rattle.std.specs.Prelude.{◌≡◌, ℕ, Bool, ◌&&◌, eqb, List, length}
use Rattle.std.specs.List.{AllZip}
use Rattle.lv_formula.specs.declared.symbols.SortId.{SortId}
use Rattle.lv_formula.specs.declared.vocabulary.RelShape.{RelShape}
use Rattle.lv_formula.specs.declared.vocabulary.ConShape.{ConShape}
use Rattle.lv_formula.specs.declared.vocabulary.Vocabulary.{Vocabulary}
use Rattle.lv_formula.specs.Symbols.{sym_eq}
use Rattle.lv_struct.specs.declared.tables.Relation.{Relation}
use Rattle.lv_struct.specs.declared.tables.Constant.{Constant}
use Rattle.lv_struct.specs.Tables.{Tables}
use Rattle.lv_formula.specs.Tuples.{all_among, has_tuple, pairwise, tuple_eq}

-- one name, the same sorts, and the same tuples as sets
pub record IsSameRelation (r q : Relation) : Type 0 where
  pub sym : r.sym ≡ q.sym
  pub sorts : r.sorts ≡ q.sorts
  pub tuples : (tuple : List ℕ) → has_tuple r.tuples tuple ≡ has_tuple q.tuples tuple

-- the same sizes, relations and constants, where the tuples of a relation count as a set
pub record IsSame (a b : Tables) : Type 0 where
  pub sizes : a.sizes ≡ b.sizes
  pub relations : AllZip IsSameRelation a.relations b.relations
  pub constants : a.constants ≡ b.constants

abbrev pub sort_eq : SortId → SortId → Bool
sort_eq s t = eqb s.0 t.0

abbrev pub has_relation_shape : Relation → RelShape → Bool
has_relation_shape r shape = sym_eq r.sym shape.sym && pairwise sort_eq r.sorts shape.sorts

abbrev pub has_constant_shape : Constant → ConShape → Bool
has_constant_shape c shape = sym_eq c.sym shape.sym && sort_eq c.sort shape.sort

abbrev pub relation_eq : Relation → Relation → Bool
relation_eq r q = sym_eq r.sym q.sym && (pairwise sort_eq r.sorts q.sorts && (all_among r.tuples q.tuples && all_among q.tuples r.tuples))

abbrev pub constant_eq : Constant → Constant → Bool
constant_eq c d = sym_eq c.sym d.sym && (sort_eq c.sort d.sort && eqb c.element d.element)

abbrev pub tables_eq : Tables → Tables → Bool
tables_eq a b = tuple_eq a.sizes b.sizes && (pairwise relation_eq a.relations b.relations && pairwise constant_eq a.constants b.constants)

abbrev pub has_vocabulary : Vocabulary → Tables → Bool
has_vocabulary voc w = eqb (length w.sizes) voc.sorts && (pairwise has_relation_shape w.relations voc.relations && pairwise has_constant_shape w.constants voc.constants)
