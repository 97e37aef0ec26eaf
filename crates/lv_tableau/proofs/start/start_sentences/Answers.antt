use Rattle.std.proofs.Common.{◌≡◌, ◌↔◌, [], true, rules, sym, subst}
use Rattle.std.proofs.lemmas.Result.{IfOk-weaker}
use Rattle.lv_formula.specs.Truth.{all_true_in}
use Rattle.lv_labels.specs.Problem.{problem_of}
use Rattle.lv_tableau.specs.Sentences.{IsDeniedStart, start_sentences_of}
use Rattle.lv_tableau.proofs.SentencesLaw.{start_true}
use Rattle.lv_tableau.proofs.start.start_sentences.Goals as goal

pub denied_start-requires : goal.denied_start-requires
denied_start-requires c = record { keys = c.requires.table.keys }

pub returns-clause-list : goal.returns-clause-list
returns-clause-list c = search rules

pub returns-clause-truth : goal.returns-clause-truth
returns-clause-truth c m = IfOk-weaker c.denied_start.result (λ all. all ≡ start_sentences_of (problem_of c.args.system.now))
    (λ all. (all_true_in m all [] ≡ true) ↔ IsDeniedStart (problem_of c.args.system.now) m)
    (λ all e. subst (λ fs. (all_true_in m fs [] ≡ true) ↔ IsDeniedStart (problem_of c.args.system.now) m) (sym e) (start_true (problem_of c.args.system.now) m))
    (returns-clause-list c)
