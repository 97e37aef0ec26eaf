-- New structures: with empty relations, and with one change to another.
use Rattle.std.specs.Prelude.{ℕ, cond, List, [], map}
use Rattle.lv_formula.specs.declared.symbols.Sym.{Sym}
use Rattle.lv_formula.specs.declared.vocabulary.RelShape.{RelShape}
use Rattle.lv_formula.specs.declared.vocabulary.ConShape.{ConShape}
use Rattle.lv_formula.specs.declared.vocabulary.Vocabulary.{Vocabulary}
use Rattle.lv_formula.specs.Symbols.{sym_eq}
use Rattle.lv_struct.specs.declared.tables.Relation.{Relation}
use Rattle.lv_struct.specs.declared.tables.Constant.{Constant}
use Rattle.lv_struct.specs.Tables.{Tables}

abbrev pub empty_relation : RelShape → Relation
empty_relation r = record { sym = r.sym; sorts = r.sorts; tuples = [] }

abbrev pub first_element : ConShape → Constant
first_element c = record { sym = c.sym; sort = c.sort; element = 0 }

-- relations are empty, and constants are element 0
abbrev pub empty_structure : Vocabulary → List ℕ → Tables
empty_structure voc sizes = record { sizes = sizes; relations = map empty_relation voc.relations; constants = map first_element voc.constants }

abbrev pub put_tuples : Sym → List (List ℕ) → Relation → Relation
put_tuples sym tuples r = cond (sym_eq r.sym sym) (record r { tuples = tuples }) r

abbrev pub put_element : Sym → ℕ → Constant → Constant
put_element sym element c = cond (sym_eq c.sym sym) (record c { element = element }) c

-- the relation named so has these tuples, and all else is as it was
abbrev pub with_tuples : Tables → Sym → List (List ℕ) → Tables
with_tuples w sym tuples = record w { relations = map (put_tuples sym tuples) w.relations }

-- the constant named so is this element, and all else is as it was
abbrev pub with_element : Tables → Sym → ℕ → Tables
with_element w sym element = record w { constants = map (put_element sym element) w.constants }
