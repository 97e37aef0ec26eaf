use Rattle.std.proofs.Common.{◌≡◌, ◌↔◌, [], true, rules, sym, subst}
use Rattle.std.proofs.lemmas.Result.{IfOk-weaker}
use Rattle.lv_formula.specs.Truth.{all_true_in}
use Rattle.lv_labels.specs.Problem.{problem_of}
use Rattle.lv_prophecy.specs.Witnesses.{AreChosen, choice_sentences}
use Rattle.lv_prophecy.proofs.WitnessLaw.{witnesses_true}
use Rattle.lv_prophecy.proofs.witnesses.witness_sentences.Goals as goal

pub returns-clause-list : goal.returns-clause-list
returns-clause-list c = search rules

pub returns-clause-truth : goal.returns-clause-truth
returns-clause-truth c m = IfOk-weaker c.each_sentence.result (λ all. all ≡ choice_sentences (problem_of c.args.system.now).choices)
    (λ all. (all_true_in m all [] ≡ true) ↔ AreChosen (problem_of c.args.system.now) m)
    (λ all e. subst (λ fs. (all_true_in m fs [] ≡ true) ↔ AreChosen (problem_of c.args.system.now) m) (sym e) (witnesses_true (problem_of c.args.system.now) m))
    (returns-clause-list c)
