-- A structure breaks the sentences of an obligation exactly where it breaks the obligation.
use Rattle.std.proofs.Common.{◌≡◌, ℕ, suc, ◌+◌, ◌<◌, Bool, true, false, not, List, [], ◌∷◌, ◌++◌, length, get_or, reverse, Some, refl, sym, ap, subst, ◌∙◌, arith, ◌↔◌}
use Rattle.std.proofs.lemmas.Bool.{and_from, and_parts, lt-ltb}
use Rattle.std.proofs.lemmas.List.{append-nil}
use Rattle.lv_formula.specs.declared.symbols.SortId.{SortId}
use Rattle.lv_formula.specs.declared.symbols.Sym.{Sym}
use Rattle.lv_formula.specs.declared.symbols.Sym.TheVariants.{Param, Saved}
use Rattle.lv_formula.specs.declared.formula.Formula.{Formula}
use Rattle.lv_formula.specs.declared.vocabulary.Vocabulary.{Vocabulary}
use Rattle.lv_formula.specs.Fits.{fits_in}
use Rattle.lv_formula.specs.Vocabulary.{relation_in}
use Rattle.lv_formula.proofs.Folds.{fold_at-False}
use Rattle.lv_rewrite.specs.Replace.{replace_of}
use Rattle.lv_formula.specs.Updated.{updated}
use Rattle.lv_rewrite.proofs.ReplaceLaw.{truth_replace}
use Rattle.lv_rewrite.proofs.TableLaw.{suits}
use Rattle.lv_formula.specs.Meaning.{AgreeOn, IsStructureOf, Meaning, in_range, is_element}
use Rattle.lv_struct.specs.Tables.{HasVocabulary, IsSound, Tables, meaning}
use Rattle.lv_struct.proofs.MeaningLaws.{structure_of}
use Rattle.lv_formula.specs.Truth.{all_true_in, truth_in, truth_step}
use Rattle.lv_formula.proofs.AgreeLaw.{truth_agrees}
use Rattle.lv_system.specs.declared.parts.Parts.{Parts}
use Rattle.lv_system.specs.declared.parts.Action.{Action}
use Rattle.lv_system.specs.Fits.{fits_parts}
use Rattle.lv_system.specs.Step.{action_at}
use Rattle.lv_system.specs.Vocabularies.{own_vocabulary}
use Rattle.lv_system.proofs.FitsFacts.{fitting}
use Rattle.lv_labels.specs.Problem.{Problem, problem_of, state_vocabulary}
use Rattle.lv_tableau.specs.Sentences.{equations_of, start_sentences_of}
use Rattle.lv_labels.proofs.OverTuples.{all_true-append}
use Rattle.lv_tableau.proofs.SentencesLaw.{equations_true, start_true}
use Rattle.lv_prophecy.specs.Witnesses.{choice_sentences}
use Rattle.lv_prophecy.proofs.WitnessLaw.{witnesses_true}
use Rattle.lv_labels.specs.declared.moves.Move.{Move}
use Rattle.lv_monitor.specs.Conditions.{all_none_due, compare_of, mark_set, move_condition_of}
use Rattle.lv_labels.specs.Monitor.{elements_in, opening, params_in, stepped}
use Rattle.lv_monitor.specs.Updates.{start_updates_of, step_updates_of}
use Rattle.lv_labels.specs.Vocabularies.{catch_vocabulary, step_vocabulary}
use Rattle.lv_oblig.proofs.FitLaw.{start_bodies, start_constants_fit, step_bodies, step_constants_fit}
use Rattle.lv_monitor.proofs.InstanceFits.{replaced_suits}
use Rattle.lv_monitor.proofs.NewConstants.{start_constants, step_constants}
use Rattle.lv_oblig.proofs.ConditionsLaw.{compare-each, compare-from, mark_true, may_move-each, may_move-from, none_due-each, none_due-from}
use Rattle.lv_temporal.proofs.Differ.{AreSortsThere}
use Rattle.lv_temporal.proofs.Found.{catch-step, param-step}
use Rattle.lv_oblig.proofs.OpeningLaw.{opening_updated}
use Rattle.lv_oblig.proofs.StepLaw.{params_true, stepped_updated}
use Rattle.lv_temporal.proofs.Words.{no_sort_id}
use Rattle.lv_labels.specs.declared.which.Which.{Which}
use Rattle.lv_labels.specs.declared.which.Which.TheVariants.{Start, Step, Catch}
use Rattle.lv_labels.specs.Obligations.{Breaks, BreaksCatch, BreaksStart, BreaksStep, InvariantsFit, invariant_at, invariants_of, vocabulary_of}
use Rattle.lv_formula.specs.declared.vocabulary.Sentences.{Sentences}
use Rattle.lv_formula.specs.Pairs.{breaks}
use Rattle.lv_oblig.specs.Numbers.{IsThere}
use Rattle.lv_oblig.specs.Sentences.{AreTrueTo, guard_of, sentences_of}
use Rattle.lv_oblig.proofs.StandLaw.{one_fits}
use Rattle.lv_temporal.proofs.Alike.{opening_sound}
use Rattle.lv_temporal.proofs.AlikeAfter.{stepped_sound}
use Rattle.lv_temporal.proofs.Extends.{extends_self}
use Rattle.lv_temporal.proofs.ClosedFits.{IsFit}
use Rattle.lv_temporal.proofs.ProblemFits.{choices, problem_fits}
use Rattle.lv_temporal.proofs.SortsThere.{sorts_there}
use Rattle.lv_oblig.proofs.Tight.{tight}

itself_agrees : (voc : Vocabulary) (m : Meaning) → AgreeOn voc m m
itself_agrees voc m = record { sizes = λ s l. refl; relations = λ r ss is tuple inside. refl; constants = λ c s is. refl }

-- every hypothesis is true, and the conclusion is false
record Both (s : Sentences) (m : Meaning) : Type 0 where
  hypotheses : all_true_in m s.hypotheses [] ≡ true
  fails : truth_in m s.conclusion [] ≡ false

not_holds : (b : Bool) → not b ≡ true → b ≡ false
not_holds true h = sym h
not_holds false h = refl

broken : (s : Sentences) (m : Meaning) → (breaks m s ≡ true) ↔ Both s m
broken s m = (
  (λ h. let both = and_parts (all_true_in m s.hypotheses []) (not (truth_in m s.conclusion [])) h in record { hypotheses = both.0; fails = not_holds (truth_in m s.conclusion []) both.1 }),
  (λ b. and_from (all_true_in m s.hypotheses []) (not (truth_in m s.conclusion [])) b.hypotheses (ap not b.fails)),
)

through : {A B C : Type 0} → A ↔ B → B ↔ C → A ↔ C
through f g = ((λ a. g.0 (f.0 a)), (λ c. f.1 (g.1 c)))

split : (m : Meaning) (fs gs : List Formula) → all_true_in m (fs ++ gs) [] ≡ true → (all_true_in m fs [] ≡ true) × (all_true_in m gs [] ≡ true)
split m fs gs h = and_parts (all_true_in m fs []) (all_true_in m gs []) (sym (all_true-append m fs gs []) ∙ h)

joined : (m : Meaning) (fs gs : List Formula) → all_true_in m fs [] ≡ true → all_true_in m gs [] ≡ true → all_true_in m (fs ++ gs) [] ≡ true
joined m fs gs h k = all_true-append m fs gs [] ∙ and_from (all_true_in m fs []) (all_true_in m gs []) h k

module _ (p : Parts) (fits : fits_parts p ≡ true) (invariants : InvariantsFit p) where
  abbrev q : Problem
  q = problem_of p

  fit : IsFit q
  fit = problem_fits p fits invariants

  there : AreSortsThere q
  there = sorts_there p (fitting p fits)

  number : length q.choices ≡ length q.parts.witnesses
  number = (choices p fits).number

  invariant_fits : (i : ℕ) → fits_in (catch_vocabulary q) [] (invariant_at p i) ≡ true
  invariant_fits i = one_fits (catch_vocabulary q) (invariants_of p) invariants i

  start_suits : (f : Formula) → fits_in (catch_vocabulary q) [] f ≡ true → suits (start_updates_of q) f ≡ true
  start_suits f h = replaced_suits (catch_vocabulary q) (state_vocabulary q) (start_updates_of q) refl (start_bodies q there) (start_constants_fit q there) f [] h

  -- ---- the start

  module _ (m : Meaning) (sound : IsStructureOf (state_vocabulary q) m) where
    start_conclusion : (i : ℕ) → truth_in m (replace_of (start_updates_of q) (invariant_at p i)) [] ≡ truth_in (opening q m) (invariant_at p i) []
    start_conclusion i = truth_replace m (start_updates_of q) (start_constants q) (invariant_at p i) (start_suits (invariant_at p i) (invariant_fits i)) []
        ∙ sym (truth_agrees (catch_vocabulary q) (opening q m) (updated m (start_updates_of q))
        (opening_sound q there number m m (state_vocabulary q) (extends_self (state_vocabulary q)) sound (itself_agrees (state_vocabulary q) m))
        (opening_updated p m) (invariant_at p i) [] [] (invariant_fits i) refl)

    start_law : (i : ℕ) → Both (sentences_of q (Start i)) m ↔ BreaksStart q i m
    start_law i = (
      (λ b.
          let both = split m (start_sentences_of q) (choice_sentences q.choices) b.hypotheses in
          let first = (start_true q m).0 both.0 in
          record {
            start = record { axioms = first.axioms; inits = first.inits; denied = first.denied; chosen = (witnesses_true q m).0 both.1 };
            fails = sym (start_conclusion i) ∙ b.fails;
          }),
      (λ b. record {
        hypotheses = joined m (start_sentences_of q) (choice_sentences q.choices) ((start_true q m).1 (record { axioms = b.start.axioms; inits = b.start.inits; denied = b.start.denied })) ((witnesses_true q m).1 b.start.chosen);
        fails = start_conclusion i ∙ b.fails;
      }),
    )

  -- ---- a step

  module _ (k : ℕ) (l : k < length p.actions) (m : Meaning) (sound : IsStructureOf (step_vocabulary q (action_at p k)) m)
      (close : (r : Sym) (sorts : List SortId) → relation_in (step_vocabulary q (action_at p k)).relations r ≡ Some sorts → (tuple : List ℕ) → m.holds r tuple ≡ true → in_range m sorts tuple ≡ true) where
    abbrev a : Action
    a = action_at p k

    close_catch : (r : Sym) (sorts : List SortId) → relation_in (catch_vocabulary q).relations r ≡ Some sorts → (tuple : List ℕ) → m.holds r tuple ≡ true → in_range m sorts tuple ≡ true
    close_catch r sorts is = close r sorts (catch-step q a r sorts is)

    params_inside : (n : ℕ) (ss : List SortId) → ((i : ℕ) → i < length ss → m.value (Param (n + i)) < m.size (get_or ss i no_sort_id)) → in_range m ss (params_in m n ss) ≡ true
    params_inside n [] h = refl
    params_inside n (s ∷ ss) h = and_from (is_element m s (m.value (Param n))) (in_range m ss (params_in m (suc n) ss))
        (let here : n + 0 ≡ n = omega arith in lt-ltb _ _ (subst (λ j. m.value (Param j) < m.size s) here (h 0 (omega arith))))
        (params_inside (suc n) ss (λ i lt. let on : n + suc i ≡ suc n + i = omega arith in subst (λ j. m.value (Param j) < m.size (get_or ss i no_sort_id)) on (h (suc i) (omega (arith, lt)))))

    elements_inside : in_range m a.params (elements_in m a) ≡ true
    elements_inside = params_inside 0 a.params (λ i lt. let z : i ≡ 0 + i = omega arith in subst (λ j. m.value (Param j) < m.size (get_or a.params i no_sort_id)) z (sound.constants (Param i) (get_or a.params i no_sort_id) (param-step q a i lt)))

    guard_says : truth_in m (guard_of a) [] ≡ truth_in m a.guard (reverse (elements_in m a))
    guard_says = params_true p a m [] a.guard (ap (λ ss. fits_in (own_vocabulary p) (reverse ss) a.guard) (append-nil a.params) ∙ fit.guards k l) [] refl
        ∙ ap (λ es. truth_in m a.guard (reverse es)) (append-nil (elements_in m a))

    step_suits : (mv : Move) (f : Formula) → fits_in (catch_vocabulary q) [] f ≡ true → suits (step_updates_of q a mv) f ≡ true
    step_suits mv f h = replaced_suits (catch_vocabulary q) (step_vocabulary q a) (step_updates_of q a mv) refl
        (step_bodies q there a (fit.updates k l) fit.justice mv) (step_constants_fit q there a (fit.updates k l) fit.justice mv) f [] h

    step_conclusion : (mv : Move) (i : ℕ) → truth_in m (replace_of (step_updates_of q a mv) (invariant_at p i)) [] ≡ truth_in (stepped q mv a m) (invariant_at p i) []
    step_conclusion mv i = truth_replace m (step_updates_of q a mv) (step_constants q a mv) (invariant_at p i) (step_suits mv (invariant_at p i) (invariant_fits i)) []
        ∙ sym (truth_agrees (catch_vocabulary q) (stepped q mv a m) (updated m (step_updates_of q a mv))
        (stepped_sound q there number fit a (fit.updates k l) m m sound (itself_agrees (step_vocabulary q a) m) elements_inside mv)
        (stepped_updated p a m (fit.updates k l) mv) (invariant_at p i) [] [] (invariant_fits i) refl)

    step_law : (mv : Move) (i : ℕ) → Both (sentences_of q (Step k mv i)) m ↔ BreaksStep q k mv i m
    step_law mv i = (
      (λ b.
          let one = split m p.axioms (invariants_of p ++ (guard_of a ∷ (move_condition_of q.justice mv ++ equations_of q.labels))) b.hypotheses in
          let two = split m (invariants_of p) (guard_of a ∷ (move_condition_of q.justice mv ++ equations_of q.labels)) one.1 in
          let three = and_parts (truth_in m (guard_of a) []) (all_true_in m (move_condition_of q.justice mv ++ equations_of q.labels) []) two.1 in
          let four = split m (move_condition_of q.justice mv) (equations_of q.labels) three.1 in
          record {
            axioms = one.0;
            invariants = two.0;
            allowed = record { in_sorts = elements_inside; guard = sym guard_says ∙ three.0 };
            may_move = may_move-each q m close_catch mv four.0;
            labels = (equations_true q m).0 four.1;
            fails = sym (step_conclusion mv i) ∙ b.fails;
          }),
      (λ b. record {
        hypotheses = joined m p.axioms (invariants_of p ++ (guard_of a ∷ (move_condition_of q.justice mv ++ equations_of q.labels))) b.axioms
            (joined m (invariants_of p) (guard_of a ∷ (move_condition_of q.justice mv ++ equations_of q.labels)) b.invariants
            (and_from (truth_in m (guard_of a) []) (all_true_in m (move_condition_of q.justice mv ++ equations_of q.labels) []) (guard_says ∙ b.allowed.guard)
            (joined m (move_condition_of q.justice mv) (equations_of q.labels) (may_move-from q m close_catch mv b.may_move) ((equations_true q m).1 b.labels))));
        fails = step_conclusion mv i ∙ b.fails;
      }),
    )

  -- ---- the catch

  module _ (m : Meaning) (close : (r : Sym) (sorts : List SortId) → relation_in (catch_vocabulary q).relations r ≡ Some sorts → (tuple : List ℕ) → m.holds r tuple ≡ true → in_range m sorts tuple ≡ true) where
    catch_law : Both (sentences_of q Catch) m ↔ BreaksCatch q m
    catch_law = (
      (λ b.
          let one = split m p.axioms (invariants_of p ++ (mark_set Saved ∷ (all_none_due q.justice ++ compare_of q))) b.hypotheses in
          let two = split m (invariants_of p) (mark_set Saved ∷ (all_none_due q.justice ++ compare_of q)) one.1 in
          let three = and_parts (truth_in m (mark_set Saved) []) (all_true_in m (all_none_due q.justice ++ compare_of q) []) two.1 in
          let four = split m (all_none_due q.justice) (compare_of q) three.1 in
          record {
            axioms = one.0;
            invariants = two.0;
            caught = record { saved = sym (mark_true q m close Saved) ∙ three.0; none_due = none_due-each q m close four.0; returned = compare-each q m close there four.1 };
          }),
      (λ b. record {
        hypotheses = joined m p.axioms (invariants_of p ++ (mark_set Saved ∷ (all_none_due q.justice ++ compare_of q))) b.axioms
            (joined m (invariants_of p) (mark_set Saved ∷ (all_none_due q.justice ++ compare_of q)) b.invariants
            (and_from (truth_in m (mark_set Saved) []) (all_true_in m (all_none_due q.justice ++ compare_of q) []) (mark_true q m close Saved ∙ b.caught.saved)
            (joined m (all_none_due q.justice) (compare_of q) (none_due-from q m close b.caught.none_due) (compare-from q m close b.caught.returned))));
        fails = fold_at-False Bool (List ℕ) (truth_step m) [];
      }),
    )

  law : (which : Which) → IsThere q which → (w : Tables) → IsSound w → HasVocabulary (vocabulary_of q which) w → Both (sentences_of q which) (meaning w) ↔ Breaks q which (meaning w)
  law (Start i) inside w sound has = start_law (meaning w) (structure_of (state_vocabulary q) w sound has) i
  law (Step k mv i) inside w sound has =
      step_law k inside (meaning w) (structure_of (step_vocabulary q (action_at p k)) w sound has) (tight (step_vocabulary q (action_at p k)) w sound has) mv i
  law Catch inside w sound has = catch_law (meaning w) (tight (catch_vocabulary q) w sound has)

  -- a structure as data of the obligation's vocabulary breaks the sentences exactly where it breaks the obligation
  pub sentences_law : (which : Which) → IsThere q which → AreTrueTo q which (sentences_of q which)
  sentences_law which inside w sound has = through (broken (sentences_of q which) (meaning w)) (law which inside w sound has)
