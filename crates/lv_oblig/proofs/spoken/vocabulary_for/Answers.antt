use Rattle.std.proofs.Common.{◌≡◌, sym, subst}
use Rattle.std.proofs.lemmas.Result.{IfOk-weaker}
use Rattle.lv_formula.specs.Vocabulary.{IsSound}
use Rattle.lv_labels.specs.Obligations.{vocabulary_of}
use Rattle.lv_labels.specs.Problem.{problem_of}
use Rattle.lv_oblig.proofs.SoundVocabularies.{sound_vocabulary}
use Rattle.lv_oblig.proofs.spoken.vocabulary_for.Goals as goal

pub returns-clause-sound : goal.returns-clause-sound
returns-clause-sound c narrow = IfOk-weaker c.words.result (λ voc. voc ≡ vocabulary_of (problem_of c.args.system.now) c.args.which) IsSound
    (λ voc is. subst IsSound (sym is) (sound_vocabulary c.args.system.now c.parts-parts.ensures.fitting narrow c.args.which c.requires.there)) c.words.ensures
