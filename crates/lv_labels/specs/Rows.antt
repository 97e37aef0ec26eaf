-- The rows of a label table, which the code hands out, as the conditions that the theory speaks of.
use Rattle.std.specs.Prelude.{◌≡◌, ℕ, [], ◌∷◌, ◌++◌, length, map}
use Rattle.lv_formula.specs.declared.symbols.Sym.TheVariants.{Label}
use Rattle.lv_formula.specs.declared.formula.Formula.TheVariants.{Atom, Not, Or}
use Rattle.lv_system.specs.declared.parts.Parts.{Parts}
use Rattle.lv_labels.specs.declared.justice.Justice.{Justice}
use Rattle.lv_labels.specs.declared.labelling.Label as row
use Rattle.lv_labels.specs.declared.labelling.LabelTable.{LabelTable}
use Rattle.lv_labels.specs.Closing.{numbered}
use Rattle.lv_labels.specs.Labels.{labels_of}
use Rattle.lv_labels.specs.Problem.{Condition, fair_condition, problem_of, tuple_variables}
use Rattle.lv_labels.specs.Table.{table_labels}

-- the body of the label, over the sorts of its variables
abbrev pub row_condition : row.Label → Condition
row_condition r = record { sorts = r.sorts; body = r.body }

-- the label, or not its body
abbrev pub row_justice : ℕ → row.Label → Condition
row_justice l r = record { sorts = r.sorts; body = Or (Atom (Label l) (tuple_variables (length r.sorts)) ∷ Not r.body ∷ []) }

-- the condition of the code as the one of the theory
abbrev pub condition_of : Justice → Condition
condition_of j = record { sorts = j.sorts; body = j.condition }

-- the table is that of the system's own labels
pub record IsTableOf (p : Parts) (t : LabelTable) : Type 0 where
  pub keys : t.keys ≡ labels_of p
  pub labels : t.labels ≡ table_labels p

-- the rows are the labels of the system's problem, in their order; and its justice conditions are those of fairness and then one
-- for each row
pub record AreRowsOfProblem (p : Parts) : Type 0 where
  pub labels : map row_condition (table_labels p) ≡ (problem_of p).labels
  pub justice : map fair_condition p.fairs ++ numbered row_justice 0 (table_labels p) ≡ (problem_of p).justice
