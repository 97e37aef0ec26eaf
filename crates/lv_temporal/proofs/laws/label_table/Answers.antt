use Rattle.lv_labels.proofs.Rows.{rows_of_problem}
use Rattle.lv_temporal.proofs.laws.label_table.Goals as goal

pub returns : goal.returns
returns c = rows_of_problem
