-- The label table gives the labels and the justice conditions of the system's problem.
use Rattle.std.proofs.Common.{◌≡◌, ◌++◌, map, ap, ◌∙◌}
use Rattle.lv_system.specs.declared.parts.Parts.{Parts}
use Rattle.lv_labels.specs.declared.labelling.LabelTable.{LabelTable}
use Rattle.lv_labels.specs.Closing.{numbered}
use Rattle.lv_labels.specs.Problem.{fair_condition, problem_of}
use Rattle.lv_labels.specs.Rows.{IsTableOf, row_condition, row_justice}
use Rattle.lv_labels.proofs.Rows.{rows_of_problem}

pub rows_are_labels : (p : Parts) (t : LabelTable) → IsTableOf p t → map row_condition t.labels ≡ (problem_of p).labels
rows_are_labels p t is = ap (map row_condition) is.labels ∙ (rows_of_problem p).labels

pub justice_list : (p : Parts) (t : LabelTable) → IsTableOf p t
    → map fair_condition p.fairs ++ numbered row_justice 0 t.labels ≡ (problem_of p).justice
justice_list p t is = ap (λ rows. map fair_condition p.fairs ++ numbered row_justice 0 rows) is.labels ∙ (rows_of_problem p).justice
