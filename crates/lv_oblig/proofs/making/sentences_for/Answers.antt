use Rattle.std.proofs.Common.{◌≡◌, sym, subst}
use Rattle.std.proofs.lemmas.Result.{IfOk-weaker}
use Rattle.lv_formula.specs.Pairs.{SentencesFit}
use Rattle.lv_labels.specs.Obligations.{vocabulary_of}
use Rattle.lv_labels.specs.Problem.{problem_of}
use Rattle.lv_oblig.specs.Sentences.{AreTrueTo, sentences_of}
use Rattle.lv_oblig.proofs.SentencesLaw.{sentences_law}
use Rattle.lv_oblig.proofs.StandLaw.{sentences_stand}
use Rattle.lv_oblig.proofs.making.sentences_for.Goals as goal

pub returns-clause-truth : goal.returns-clause-truth
returns-clause-truth c invariants = IfOk-weaker c.made.result (λ s. s ≡ sentences_of (problem_of c.args.system.now) c.args.which) (AreTrueTo (problem_of c.args.system.now) c.args.which)
    (λ s is. subst (AreTrueTo (problem_of c.args.system.now) c.args.which) (sym is) (sentences_law c.args.system.now c.parts-parts.ensures.fitting invariants c.args.which c.requires.there)) c.made.ensures

pub returns-clause-fit : goal.returns-clause-fit
returns-clause-fit c invariants = IfOk-weaker c.made.result (λ s. s ≡ sentences_of (problem_of c.args.system.now) c.args.which) (SentencesFit (vocabulary_of (problem_of c.args.system.now) c.args.which))
    (λ s is. subst (SentencesFit (vocabulary_of (problem_of c.args.system.now) c.args.which)) (sym is) (sentences_stand c.args.system.now c.parts-parts.ensures.fitting invariants c.args.which c.requires.there)) c.made.ensures
