-- A structure has one answer, and structures that are alike have the same.
use Rattle.std.proofs.Common.{◌≡◌, ℕ, suc, ◌+◌, ◌<◌, ◌≤◌, Bool, true, false, not, ◌&&◌, List, [], ◌∷◌, length, get_or, refl, sym, ap, ap₂, ◌∙◌, arith, ⊎_elim}
use Rattle.std.specs.List.{All}
use Rattle.std.proofs.lemmas.Bool.{and_parts, cases_order, false≢true}
use Rattle.std.proofs.lemmas.List.Elements.{All-append, All-cons, All-get_or, All-nil}
use Rattle.lv_formula.specs.declared.formula.Formula.{Formula}
use Rattle.lv_formula.specs.declared.formula.Formula.TheVariants.{True}
use Rattle.lv_formula.specs.Fits.{all_fit_in, fits_in}
use Rattle.lv_formula.specs.Meaning.{AgreeOn}
use Rattle.lv_formula.specs.Pairs.{SentencesFit}
use Rattle.lv_formula.specs.Truth.{all_true_in, truth_in}
use Rattle.lv_formula.proofs.AgreeLaw.{truth_agrees}
use Rattle.lv_struct.specs.Tables.{Tables, meaning}
use Rattle.lv_struct.proofs.MeaningLaws.{structure_of}
use Rattle.lv_eval.specs.FirstFalse.{IsFirstFalse}
use Rattle.lv_eval.proofs.FirstFalseLaws.{not_all_true}
use Rattle.lv_system.specs.declared.parts.Action.{Action}
use Rattle.lv_system.specs.declared.parts.Invariant.{Invariant}
use Rattle.lv_system.specs.declared.parts.Parts.{Parts}
use Rattle.lv_labels.specs.declared.moves.Move.{Move}
use Rattle.lv_labels.specs.declared.moves.Move.TheVariants.{Stay, Freeze, Save}
use Rattle.lv_labels.specs.declared.which.Which.{Which}
use Rattle.lv_labels.specs.declared.which.Which.TheVariants.{Start, Step, Catch}
use Rattle.lv_labels.specs.Obligations.{Breaks, obligations_of, starts_from, steps_from, steps_of_move}
use Rattle.lv_labels.specs.Problem.{Problem, problem_of}
use Rattle.lv_oblig.specs.Numbers.{IsBelow, IsThere, obligation_at}
use Rattle.lv_oblig.specs.Sentences.{AreTrueTo, conclusion_of, hypotheses_of, sentences_of}
use Rattle.lv_oblig.proofs.SentencesLaw.{sentences_law}
use Rattle.lv_oblig.proofs.StandLaw.{one_fits, sentences_stand}
use Rattle.lv_check.specs.declared.checking.Checked.{Checked}
use Rattle.lv_check.specs.declared.checking.Checked.TheVariants as C
use Rattle.lv_check.specs.Answers.{IsChecked, concludes, hypotheses_at}
use Rattle.lv_check.specs.Laws.{AlikeHaveTheSame, CanBeChecked, HasOneAnswer, vocabulary_at}
use Rattle.lv_check.proofs.Conclusions.{conclusion_says}

-- ---- each obligation is of an action that is there

each_start : (k n : ℕ) (is : List Invariant) → All (IsBelow k) (starts_from n is)
each_start k n [] = All-nil (IsBelow k)
each_start k n (i ∷ is) = All-cons (IsBelow k) (Start n) (starts_from (suc n) is) tt (each_start k (suc n) is)

each_step_of : (k action : ℕ) (mv : Move) (n : ℕ) (is : List Invariant) → action < k → All (IsBelow k) (steps_of_move action mv n is)
each_step_of k action mv n [] lt = All-nil (IsBelow k)
each_step_of k action mv n (i ∷ is) lt = All-cons (IsBelow k) (Step action mv n) (steps_of_move action mv (suc n) is) lt (each_step_of k action mv (suc n) is lt)

each_step : (k : ℕ) (is : List Invariant) (n : ℕ) (as' : List Action) → n + length as' ≤ k → All (IsBelow k) (steps_from is n as')
each_step k is n [] le = All-nil (IsBelow k)
each_step k is n (a ∷ as') le =
    let here : n < k = omega (arith, le) in
    All-append (IsBelow k) (steps_of_move n Stay 0 is) _ (each_step_of k n Stay 0 is here)
    (All-append (IsBelow k) (steps_of_move n Freeze 0 is) _ (each_step_of k n Freeze 0 is here)
    (All-append (IsBelow k) (steps_of_move n Save 0 is) (steps_from is (suc n) as') (each_step_of k n Save 0 is here) (each_step k is (suc n) as' (omega (arith, le)))))

is_there : (p : Parts) (i : ℕ) → i < length (obligations_of p) → IsThere (problem_of p) (obligation_at p i)
is_there p i lt = All-get_or (IsBelow (length p.actions)) (obligations_of p) i Catch lt
    (All-append (IsBelow (length p.actions)) (starts_from 0 p.invariants) _ (each_start (length p.actions) 0 p.invariants)
    (All-append (IsBelow (length p.actions)) (steps_from p.invariants 0 p.actions) (Catch ∷ []) (each_step (length p.actions) p.invariants 0 p.actions (omega arith))
    (All-cons (IsBelow (length p.actions)) Catch [] tt (All-nil (IsBelow (length p.actions))))))

-- ---- what is known of a structure that can be checked

module _ (p : Parts) (i : ℕ) (w : Tables) (can : CanBeChecked p i w) where
  abbrev q : Problem
  q = problem_of p

  abbrev which : Which
  which = obligation_at p i

  there : IsThere q which
  there = is_there p i can.number

  fit : SentencesFit (vocabulary_at p i) (sentences_of q which)
  fit = sentences_stand p can.fits can.invariants which there

  says : truth_in (meaning w) (conclusion_of q which) [] ≡ concludes q which (meaning w)
  says = conclusion_says p can.fits can.invariants w can.sound which there can.vocabulary

  true_to : AreTrueTo q which (sentences_of q which)
  true_to = sentences_law p can.fits can.invariants which there

  -- where it breaks the obligation, every hypothesis is true and the conclusion false
  broken : Breaks q which (meaning w) → (all_true_in (meaning w) (hypotheses_of q which) [] ≡ true) × (concludes q which (meaning w) ≡ false)
  broken h =
      let both = and_parts (all_true_in (meaning w) (hypotheses_of q which) []) (not (truth_in (meaning w) (conclusion_of q which) [])) ((true_to w can.sound can.vocabulary).1 h) in
      (both.0, sym says ∙ was_false (truth_in (meaning w) (conclusion_of q which) []) both.1)
    where
      was_false : (b : Bool) → not b ≡ true → b ≡ false
      was_false true e = sym e
      was_false false e = refl

  never : {A : Type 0} (b : Bool) → b ≡ true → b ≡ false → A
  never b holds fails = absurd (false≢true (sym fails ∙ holds))

  first_is_one : (n k : ℕ) → IsFirstFalse (meaning w) (hypotheses_at p i) n → IsFirstFalse (meaning w) (hypotheses_at p i) k → n ≡ k
  first_is_one n k one other = ⊎_elim (λ same. same)
      (λ differ. ⊎_elim (λ lt. never (truth_in (meaning w) (get_or (hypotheses_at p i) n True) []) (other.earlier n lt) one.fails)
      (λ lt. never (truth_in (meaning w) (get_or (hypotheses_at p i) k True) []) (one.earlier k lt) other.fails) differ)
      (cases_order n k)

  one_of : (one other : Checked) → IsChecked p i (meaning w) one → IsChecked p i (meaning w) other → one ≡ other
  one_of C.Breaks C.Breaks h g = refl
  one_of C.Breaks (C.HypothesisFails n) h g = never (all_true_in (meaning w) (hypotheses_at p i) []) (broken h).0 (not_all_true (meaning w) (hypotheses_at p i) n g)
  one_of C.Breaks C.ConclusionHolds h g = never (concludes q which (meaning w)) g.1 (broken h).1
  one_of (C.HypothesisFails n) C.Breaks h g = never (all_true_in (meaning w) (hypotheses_at p i) []) (broken g).0 (not_all_true (meaning w) (hypotheses_at p i) n h)
  one_of (C.HypothesisFails n) (C.HypothesisFails k) h g = ap C.HypothesisFails (first_is_one n k h g)
  one_of (C.HypothesisFails n) C.ConclusionHolds h g = never (all_true_in (meaning w) (hypotheses_at p i) []) g.0 (not_all_true (meaning w) (hypotheses_at p i) n h)
  one_of C.ConclusionHolds C.Breaks h g = never (concludes q which (meaning w)) h.1 (broken g).1
  one_of C.ConclusionHolds (C.HypothesisFails n) h g = never (all_true_in (meaning w) (hypotheses_at p i) []) h.0 (not_all_true (meaning w) (hypotheses_at p i) n g)
  one_of C.ConclusionHolds C.ConclusionHolds h g = refl

  -- ---- another structure that agrees with it

  module _ (v : Tables) (could : CanBeChecked p i v) (agrees : AgreeOn (vocabulary_at p i) (meaning w) (meaning v)) where
    same_truth : (f : Formula) → fits_in (vocabulary_at p i) [] f ≡ true → truth_in (meaning w) f [] ≡ truth_in (meaning v) f []
    same_truth f h = truth_agrees (vocabulary_at p i) (meaning w) (meaning v) (structure_of (vocabulary_at p i) w can.sound can.vocabulary) agrees f [] [] h refl

    same_all : (fs : List Formula) → all_fit_in (vocabulary_at p i) [] fs ≡ true → all_true_in (meaning w) fs [] ≡ all_true_in (meaning v) fs []
    same_all [] h = refl
    same_all (f ∷ fs) h = let both = and_parts (fits_in (vocabulary_at p i) [] f) (all_fit_in (vocabulary_at p i) [] fs) h in
        ap₂ (λ a b. a && b) (same_truth f both.0) (same_all fs both.1)

    same_hypothesis : (n : ℕ) → truth_in (meaning w) (get_or (hypotheses_at p i) n True) [] ≡ truth_in (meaning v) (get_or (hypotheses_at p i) n True) []
    same_hypothesis n = same_truth (get_or (hypotheses_at p i) n True) (one_fits (vocabulary_at p i) (hypotheses_at p i) fit.hypotheses n)

    same_conclusion : concludes q which (meaning w) ≡ concludes q which (meaning v)
    same_conclusion = sym says ∙ same_truth (conclusion_of q which) fit.conclusion ∙ conclusion_says p can.fits can.invariants v could.sound which there could.vocabulary

    same_of : (answer : Checked) → IsChecked p i (meaning w) answer → IsChecked p i (meaning v) answer
    same_of C.Breaks h = (true_to v could.sound could.vocabulary).0
        (ap₂ (λ a b. a && not b) (sym (same_all (hypotheses_at p i) fit.hypotheses)) (sym (same_truth (conclusion_of q which) fit.conclusion)) ∙ (true_to w can.sound can.vocabulary).1 h)
    same_of (C.HypothesisFails n) h = record {
      there = h.there;
      earlier = λ k lt. sym (same_hypothesis k) ∙ h.earlier k lt;
      fails = sym (same_hypothesis n) ∙ h.fails;
    }
    same_of C.ConclusionHolds h = (sym (same_all (hypotheses_at p i) fit.hypotheses) ∙ h.0, sym same_conclusion ∙ h.1)

pub one_answer : HasOneAnswer
one_answer p i w can one other h g = one_of p i w can one other h g

pub alike_have_the_same : AlikeHaveTheSame
alike_have_the_same p i w v can could agrees answer h = same_of p i w can v could agrees answer h
