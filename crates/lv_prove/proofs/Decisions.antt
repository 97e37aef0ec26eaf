-- What a decision on the sentences of an obligation says of the obligation.
use Rattle.std.proofs.Common.{◌≡◌, ℕ, ◌≤◌, true, subst, arith}
use Rattle.std.proofs.lemmas.List.{get_or_default}
use Rattle.lv_formula.specs.declared.vocabulary.Sentences.{Sentences}
use Rattle.lv_formula.specs.declared.vocabulary.Vocabulary.{Vocabulary}
use Rattle.lv_struct.specs.Tables.{meaning}
use Rattle.lv_struct.proofs.MeaningLaws.{structure_of}
use Rattle.lv_system.specs.declared.parts.Parts.{Parts}
use Rattle.lv_system.specs.Fits.{fits_parts}
use Rattle.lv_system.specs.Lasso.{Meets}
use Rattle.lv_labels.specs.declared.which.Which.TheVariants.{Catch}
use Rattle.lv_labels.specs.Obligations.{AreValid, InvariantsFit, IsValid, obligations_of}
use Rattle.lv_labels.specs.Positions.{Bounded}
use Rattle.lv_labels.specs.Problem.{problem_of}
use Rattle.lv_temporal.proofs.Bound.{bounded, bounded_positions}
use Rattle.lv_temporal.proofs.Listed.{true_labels}
use Rattle.lv_temporal.proofs.LoopRounds.{meets}
use Rattle.lv_temporal.proofs.ProblemFits.{kept_and_free, problem_fits}
use Rattle.lv_temporal.proofs.Scoped.{scoped}
use Rattle.lv_oblig.specs.Numbers.{obligation_at}
use Rattle.lv_oblig.specs.Sentences.{AreTrueTo}
use Rattle.lv_decide.specs.declared.deciding.Decision.{Decision}
use Rattle.lv_decide.specs.declared.deciding.Decision.TheVariants as D
use Rattle.lv_decide.specs.Decisions.{IsDecision}
use Rattle.lv_prove.specs.Outcomes.{AreValidBefore, IsDecisionAt, count, sentences_at, vocabulary_at}

decided : (p : Parts) (i budget : ℕ) (d : Decision) → AreTrueTo (problem_of p) (obligation_at p i) (sentences_at p i) → IsDecision (vocabulary_at p i) (sentences_at p i) budget d → IsDecisionAt p i budget d
decided p i budget D.Valid says none = λ w sound has breaks. none (meaning w) (structure_of (vocabulary_at p i) w sound has) ((says w sound has).1 breaks)
decided p i budget (D.Breaks w) says h = record { sound = h.sound; vocabulary = h.vocabulary; breaks = (says w h.sound h.vocabulary).0 h.broken; few = h.few }
decided p i budget (D.Spent log) says h = h

-- the same of the vocabulary and the sentences that were made
pub decision_at : (p : Parts) (i budget : ℕ) (voc : Vocabulary) (s : Sentences) (d : Decision) → voc ≡ vocabulary_at p i → s ≡ sentences_at p i → AreTrueTo (problem_of p) (obligation_at p i) s → IsDecision voc s budget d → IsDecisionAt p i budget d
decision_at p i budget voc s d is-voc is-s says h = decided p i budget d (subst (AreTrueTo (problem_of p) (obligation_at p i)) is-s says)
    (subst (λ v. IsDecision v (sentences_at p i) budget d) is-voc (subst (λ t. IsDecision voc t budget d) is-s h))

-- obligations that are valid one by one are all valid
pub all_valid : (p : Parts) (n : ℕ) → count p ≤ n → AreValidBefore p n → AreValid p
all_valid p n few valid k d l = subst (IsValid (problem_of p)) (get_or_default (obligations_of p) k Catch d l) (valid k (omega (arith, l, few)))

-- a system whose obligations are all valid meets its property at all sizes
pub holds : (p : Parts) → fits_parts p ≡ true → InvariantsFit p → AreValid p → Meets p × Bounded p
holds p fits stand valid =
    let fit = problem_fits p fits stand in
    let free = kept_and_free p fits stand valid in
    (meets p (true_labels p (scoped p fits)) (bounded (problem_of p) fit free.0 free.1), bounded_positions p fit free.0 free.1)
