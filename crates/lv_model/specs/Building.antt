-- What is asked of sentences in normal form, beside the vocabulary that they are over.
use Rattle.lv_formula.specs.declared.vocabulary.Sentences.{Sentences}
use Rattle.lv_formula.specs.declared.vocabulary.Vocabulary.{Vocabulary}
use Rattle.lv_formula.specs.Pairs.{SentencesFit}
use Rattle.lv_places.specs.declared.skolem.Skolem.{Skolem}
use Rattle.lv_skolem.specs.Skolems.{IsSkolem}

-- they are those of some hypotheses and conclusion over the vocabulary
pub record IsSkolemOf (voc : Vocabulary) (sk : Skolem) : Type 0 where
  pub sentences : Sentences
  pub fit : SentencesFit voc sentences
  pub skolem : IsSkolem voc sentences sk
