use Rattle.std.proofs.Common.{◌≡◌, IfOk, sym, subst}
use Rattle.std.proofs.lemmas.Result.{IfOk-weaker}
use Rattle.lv_formula.specs.declared.vocabulary.Vocabulary.{Vocabulary}
use Rattle.lv_formula.specs.Vocabulary.{IsSound}
use Rattle.lv_system.specs.declared.parts.Parts.{Parts}
use Rattle.lv_labels.specs.declared.which.Which.TheVariants.{Catch}
use Rattle.lv_labels.specs.Problem.{problem_of}
use Rattle.lv_labels.specs.Vocabularies.{catch_vocabulary}
use Rattle.lv_oblig.proofs.SoundVocabularies.{sound_vocabulary}
use Rattle.lv_check.proofs.performing.words_after.Goals as goal

pub returns : goal.returns
returns c =
    let value = subst (λ (p : Parts). IfOk c.catch_vocabulary.result (λ voc. voc ≡ catch_vocabulary (problem_of p))) c.parts.ensures.value c.catch_vocabulary.ensures in
    record {
      value = value;
      sound = IfOk-weaker c.catch_vocabulary.result (λ (voc : Vocabulary). voc ≡ catch_vocabulary (problem_of c.args.system.now)) IsSound
          (λ voc is. subst IsSound (sym is) (sound_vocabulary c.args.system.now c.parts.ensures.fitting c.requires.narrow Catch tt)) value;
    }
