use Rattle.std.proofs.Common.{◌≡◌, ◌++◌, map, rules, ◌∙◌}
use Rattle.std.proofs.lemmas.Result.{IfOk-weaker}
use Rattle.lv_labels.specs.Closing.{numbered}
use Rattle.lv_labels.specs.Problem.{fair_condition, problem_of}
use Rattle.lv_labels.specs.Rows.{condition_of, row_justice}
use Rattle.lv_tableau.proofs.JusticeLaw.{justice_list}
use Rattle.lv_tableau.proofs.conditions.justice.Goals as goal

pub returns-clause-list : goal.returns-clause-list
returns-clause-list c = search rules

pub returns-clause-conditions : goal.returns-clause-conditions
returns-clause-conditions c = IfOk-weaker c.conditions.result
    (λ all. map condition_of all ≡ map fair_condition c.args.system.now.fairs ++ numbered row_justice 0 c.args.table.now.labels)
    (λ all. map condition_of all ≡ (problem_of c.args.system.now).justice)
    (λ all is. is ∙ justice_list c.args.system.now c.args.table.now c.requires.table)
    (returns-clause-list c)
