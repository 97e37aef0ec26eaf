-- What is asked of sentences that are ground.
use Rattle.lv_formula.specs.declared.vocabulary.Sentences.{Sentences}
use Rattle.lv_formula.specs.declared.vocabulary.Vocabulary.{Vocabulary}
use Rattle.lv_formula.specs.Vocabulary.{IsSound}
use Rattle.lv_formula.specs.Pairs.{SentencesFit}
use Rattle.lv_places.specs.declared.skolem.Skolem.{Skolem}
use Rattle.lv_skolem.specs.Skolems.{IsSkolem}

-- they are those of some hypotheses and conclusion over some vocabulary
pub record IsSkolemised (sk : Skolem) : Type 0 where
  pub voc : Vocabulary
  pub sentences : Sentences
  pub sound : IsSound voc
  pub fit : SentencesFit voc sentences
  pub skolem : IsSkolem voc sentences sk
