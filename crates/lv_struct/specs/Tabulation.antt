-- The tables of a structure that is given as functions.
use Rattle.std.specs.Prelude.{ℕ, zero, suc, ◌+◌, List, [], ◌∷◌, map, filter}
use Rattle.lv_formula.specs.declared.vocabulary.RelShape.{RelShape}
use Rattle.lv_formula.specs.declared.vocabulary.ConShape.{ConShape}
use Rattle.lv_formula.specs.declared.vocabulary.Vocabulary.{Vocabulary}
use Rattle.lv_formula.specs.Meaning.{Meaning}
use Rattle.lv_formula.specs.Tuples.{tuples_over}
use Rattle.lv_struct.specs.declared.tables.Relation.{Relation}
use Rattle.lv_struct.specs.declared.tables.Constant.{Constant}
use Rattle.lv_struct.specs.Tables.{Tables}

-- the sizes of the sorts from n on, so many
abbrev pub sizes_from : Meaning → ℕ → ℕ → List ℕ
sizes_from m n zero = []
sizes_from m n (suc k) = m.size (record { 0 = n }) ∷ sizes_from m (n + 1) k

-- the tuples in range that the relation has, in lexicographic order
abbrev pub relation_table : Meaning → RelShape → Relation
relation_table m r = record { sym = r.sym; sorts = r.sorts; tuples = filter (m.holds r.sym) (tuples_over m.size r.sorts) }

abbrev pub constant_entry : Meaning → ConShape → Constant
constant_entry m c = record { sym = c.sym; sort = c.sort; element = m.value c.sym }

-- the tables of a structure over a vocabulary
abbrev pub tables_of : Vocabulary → Meaning → Tables
tables_of voc m = record {
  sizes = sizes_from m 0 voc.sorts;
  relations = map (relation_table m) voc.relations;
  constants = map (constant_entry m) voc.constants;
}
