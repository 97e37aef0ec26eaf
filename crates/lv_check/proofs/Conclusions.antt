-- The conclusion of an obligation as a sentence, and what it says of the structure after the opening or the step.
use Rattle.std.proofs.Common.{◌≡◌, ℕ, ◌<◌, Bool, true, false, not, List, [], length, refl, sym, ap, ◌∙◌}
use Rattle.std.proofs.lemmas.Bool.{and_from}
use Rattle.lv_formula.specs.declared.formula.Formula.{Formula}
use Rattle.lv_formula.specs.declared.update.Update.{Update}
use Rattle.lv_formula.specs.declared.vocabulary.Vocabulary.{Vocabulary}
use Rattle.lv_formula.specs.Fits.{fits_in}
use Rattle.lv_formula.specs.Meaning.{AgreeOn, IsStructureOf, Meaning}
use Rattle.lv_formula.specs.Truth.{all_true_in, truth_in, truth_step}
use Rattle.lv_formula.specs.Updated.{updated}
use Rattle.lv_formula.proofs.AgreeLaw.{truth_agrees}
use Rattle.lv_formula.proofs.Folds.{fold_at-False}
use Rattle.lv_rewrite.specs.Replace.{replace_of}
use Rattle.lv_rewrite.specs.Tables.{are_constants}
use Rattle.lv_rewrite.proofs.ReplaceLaw.{truth_replace}
use Rattle.lv_rewrite.proofs.TableLaw.{suits}
use Rattle.lv_struct.specs.Tables.{HasVocabulary, IsSound, Tables, meaning}
use Rattle.lv_struct.proofs.MeaningLaws.{structure_of}
use Rattle.lv_system.specs.declared.parts.Action.{Action}
use Rattle.lv_system.specs.declared.parts.Parts.{Parts}
use Rattle.lv_system.specs.Fits.{fits_parts}
use Rattle.lv_system.specs.Step.{action_at}
use Rattle.lv_system.proofs.FitsFacts.{fitting}
use Rattle.lv_labels.specs.declared.moves.Move.{Move}
use Rattle.lv_labels.specs.declared.which.Which.{Which}
use Rattle.lv_labels.specs.declared.which.Which.TheVariants.{Start, Step, Catch}
use Rattle.lv_labels.specs.Monitor.{opening, stepped}
use Rattle.lv_labels.specs.Obligations.{Breaks, InvariantsFit, invariant_at, invariants_of, vocabulary_of}
use Rattle.lv_labels.specs.Problem.{Problem, problem_of, state_vocabulary}
use Rattle.lv_labels.specs.Vocabularies.{catch_vocabulary, step_vocabulary}
use Rattle.lv_monitor.specs.Updates.{start_updates_of, step_updates_of}
use Rattle.lv_monitor.proofs.InstanceFits.{replaced_suits}
use Rattle.lv_monitor.proofs.NewConstants.{start_constants, step_constants}
use Rattle.lv_oblig.specs.Numbers.{IsThere}
use Rattle.lv_oblig.specs.Sentences.{AreTrueTo, conclusion_of, hypotheses_of, sentences_of}
use Rattle.lv_oblig.proofs.FitLaw.{start_bodies, start_constants_fit, step_bodies, step_constants_fit}
use Rattle.lv_oblig.proofs.OpeningLaw.{opening_updated}
use Rattle.lv_oblig.proofs.StandLaw.{one_fits}
use Rattle.lv_oblig.proofs.StepLaw.{stepped_updated}
use Rattle.lv_temporal.proofs.Alike.{opening_sound}
use Rattle.lv_temporal.proofs.AlikeAfter.{stepped_sound}
use Rattle.lv_temporal.proofs.ClosedFits.{IsFit}
use Rattle.lv_temporal.proofs.Differ.{AreSortsThere}
use Rattle.lv_temporal.proofs.Extends.{extends_self}
use Rattle.lv_temporal.proofs.ProblemFits.{choices, problem_fits}
use Rattle.lv_temporal.proofs.SortsThere.{sorts_there}
use Rattle.lv_check.specs.Answers.{concludes}
use Rattle.lv_check.specs.Performing.{IsMonitored}
use Rattle.lv_check.proofs.Performed.{elements_inside}

itself : (voc : Vocabulary) (m : Meaning) → AgreeOn voc m m
itself voc m = record { sizes = λ s l. refl; relations = λ r ss is tuple inside. refl; constants = λ c s is. refl }

-- a formula read through updates, in a structure that agrees with what the updates make
read_through : (voc : Vocabulary) (us : List Update) (m n : Meaning) (f : Formula) → are_constants us ≡ true → suits us f ≡ true → fits_in voc [] f ≡ true
    → IsStructureOf voc n → AgreeOn voc n (updated m us) → truth_in m (replace_of us f) [] ≡ truth_in n f []
read_through voc us m n f constants suit fits is agrees = truth_replace m us constants f suit [] ∙ sym (truth_agrees voc n (updated m us) is agrees f [] [] fits refl)

module _ (p : Parts) (fits : fits_parts p ≡ true) (invariants : InvariantsFit p) where
  abbrev q : Problem
  q = problem_of p

  fit : IsFit q
  fit = problem_fits p fits invariants

  there : AreSortsThere q
  there = sorts_there p (fitting p fits)

  number : length q.choices ≡ length q.parts.witnesses
  number = (choices p fits).number

  pub invariant_fits : (i : ℕ) → fits_in (catch_vocabulary q) [] (invariant_at p i) ≡ true
  invariant_fits i = one_fits (catch_vocabulary q) (invariants_of p) invariants i

  module _ (w : Tables) (sound : IsSound w) where
    abbrev m : Meaning
    m = meaning w

    at_start : (i : ℕ) → HasVocabulary (state_vocabulary q) w → truth_in m (conclusion_of q (Start i)) [] ≡ concludes q (Start i) m
    at_start i has = read_through (catch_vocabulary q) (start_updates_of q) m (opening q m) (invariant_at p i) (start_constants q)
        (replaced_suits (catch_vocabulary q) (state_vocabulary q) (start_updates_of q) refl (start_bodies q there) (start_constants_fit q there) (invariant_at p i) [] (invariant_fits i))
        (invariant_fits i)
        (opening_sound q there number m m (state_vocabulary q) (extends_self (state_vocabulary q)) (structure_of (state_vocabulary q) w sound has) (itself (state_vocabulary q) m))
        (opening_updated p m)

    module _ (k : ℕ) (inside : k < length p.actions) (has : HasVocabulary (step_vocabulary q (action_at p k)) w) (mv : Move) where
      abbrev a : Action
      a = action_at p k

      -- what the step makes is a structure
      pub step_is_structure : IsStructureOf (catch_vocabulary q) (stepped q mv a m)
      step_is_structure = stepped_sound q there number fit a (fit.updates k inside) m m (structure_of (step_vocabulary q a) w sound has) (itself (step_vocabulary q a) m) (elements_inside p k w has sound) mv

      after_step : (i : ℕ) → truth_in m (conclusion_of q (Step k mv i)) [] ≡ concludes q (Step k mv i) m
      after_step i = read_through (catch_vocabulary q) (step_updates_of q a mv) m (stepped q mv a m) (invariant_at p i) (step_constants q a mv)
          (replaced_suits (catch_vocabulary q) (step_vocabulary q a) (step_updates_of q a mv) refl
          (step_bodies q there a (fit.updates k inside) fit.justice mv) (step_constants_fit q there a (fit.updates k inside) fit.justice mv) (invariant_at p i) [] (invariant_fits i))
          (invariant_fits i) step_is_structure (stepped_updated p a m (fit.updates k inside) mv)

      -- in what the step made the invariant is true exactly where the conclusion is
      pub holds_so : (next : Tables) → IsMonitored p k mv w next → (i : ℕ) → truth_in (meaning next) (invariant_at p i) [] ≡ concludes q (Step k mv i) m
      holds_so next made i = sym (truth_agrees (catch_vocabulary q) (stepped q mv a m) (meaning next) step_is_structure made.agrees (invariant_at p i) [] [] (invariant_fits i) refl)

    -- the sentence is true exactly where the conclusion is
    pub conclusion_says : (which : Which) → IsThere q which → HasVocabulary (vocabulary_of q which) w → truth_in m (conclusion_of q which) [] ≡ concludes q which m
    conclusion_says (Start i) inside has = at_start i has
    conclusion_says (Step k mv i) inside has = after_step k inside has mv i
    conclusion_says Catch inside has = fold_at-False Bool (List ℕ) (truth_step m) []

    -- a structure with true hypotheses and a false conclusion breaks the obligation
    pub breaks_so : (which : Which) → IsThere q which → HasVocabulary (vocabulary_of q which) w → AreTrueTo q which (sentences_of q which)
        → all_true_in m (hypotheses_of q which) [] ≡ true → concludes q which m ≡ false → Breaks q which m
    breaks_so which inside has says hypotheses fails = (says w sound has).0 (and_from (all_true_in m (hypotheses_of q which) []) (not (truth_in m (conclusion_of q which) [])) hypotheses
        (ap not (conclusion_says which inside has ∙ fails)))
