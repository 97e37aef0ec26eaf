use Rattle.std.proofs.Common.{◌≡◌, ◌↔◌, [], true, map, rules, sym, subst}
use Rattle.std.proofs.lemmas.Result.{IfOk-weaker}
use Rattle.lv_formula.specs.declared.symbols.Sym.TheVariants.{Next}
use Rattle.lv_formula.specs.Truth.{all_true_in}
use Rattle.lv_labels.specs.Problem.{problem_of}
use Rattle.lv_labels.specs.Rows.{row_condition}
use Rattle.lv_labels.specs.Runs.{LabelEquation}
use Rattle.lv_tableau.specs.Sentences.{equations_of}
use Rattle.lv_tableau.proofs.JusticeLaw.{rows_are_labels}
use Rattle.lv_tableau.proofs.SentencesLaw.{equations_of_labels}
use Rattle.lv_tableau.proofs.equating.equations.Goals as goal

pub returns-clause-list : goal.returns-clause-list
returns-clause-list c = search rules

pub returns-clause-truth : goal.returns-clause-truth
returns-clause-truth c p m is = IfOk-weaker c.each_equation.result (λ all. all ≡ equations_of (map row_condition c.args.table.now.labels))
    (λ all. (all_true_in m all [] ≡ true) ↔ LabelEquation (problem_of p) m (λ l tuple. m.holds (Next l) tuple))
    (λ all e. subst (λ fs. (all_true_in m fs [] ≡ true) ↔ LabelEquation (problem_of p) m (λ l tuple. m.holds (Next l) tuple)) (sym e)
    (equations_of_labels (map row_condition c.args.table.now.labels) (problem_of p) m (sym (rows_are_labels p c.args.table.now is))))
    (returns-clause-list c)
