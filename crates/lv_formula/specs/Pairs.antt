-- Hypotheses and a conclusion: when they stand over a vocabulary, and when a structure breaks them.
use Rattle.std.specs.Prelude.{◌≡◌, Bool, true, not, ◌&&◌, []}
use Rattle.lv_formula.specs.declared.vocabulary.Sentences.{Sentences}
use Rattle.lv_formula.specs.declared.vocabulary.Vocabulary.{Vocabulary}
use Rattle.lv_formula.specs.Fits.{fits_in, all_fit_in}
use Rattle.lv_formula.specs.Meaning.{Meaning}
use Rattle.lv_formula.specs.Truth.{truth_in, all_true_in}

-- the hypotheses and the conclusion are closed formulas over the vocabulary
pub record SentencesFit (voc : Vocabulary) (s : Sentences) : Type 0 where
  pub hypotheses : all_fit_in voc [] s.hypotheses ≡ true
  pub conclusion : fits_in voc [] s.conclusion ≡ true

-- every hypothesis is true in the structure, and the conclusion is false
abbrev pub breaks : Meaning → Sentences → Bool
breaks m s = all_true_in m s.hypotheses [] && not (truth_in m s.conclusion [])
