-- The sample system over a sort has a labelled run with a round after a freeze; with fewer invariants a structure is caught.
use Rattle.std.proofs.Common.{◌≡◌, ℕ, zero, suc, ◌<◌, ◌≤◌, true, false, not, ◌&&◌, List, [], ◌∷◌, get_or, reverse, refl, sym, ap, ap₂, subst, eqb, ◌∙◌, arith, ltb-true}
use Rattle.std.proofs.Math.Bool.{and-false}
use Rattle.std.proofs.lemmas.Bool.{and_parts, false≢true}
use Rattle.std.proofs.lemmas.List.Elements.{All-cons, All-nil}
use Rattle.lv_formula.specs.declared.symbols.Sym.TheVariants.{Own, Witness, Label, Copy}
use Rattle.lv_formula.specs.declared.vocabulary.ConShape.{ConShape}
use Rattle.lv_formula.specs.declared.formula.Formula.TheVariants as F
use Rattle.lv_formula.proofs.Folds as FF
use Rattle.lv_formula.specs.Meaning.{IsStructureOf, Meaning, in_range}
use Rattle.lv_struct.specs.Tabulation.{tables_of}
use Rattle.lv_struct.proofs.Tabulate.{constant_found, vocabulary-tables_of}
use Rattle.lv_formula.specs.Tuples.{over}
use Rattle.lv_formula.specs.Truth.{Env, truth_in}
use Rattle.lv_system.specs.Step.{IsAllowed, action_at}
use Rattle.lv_labels.specs.Problem.{Problem, choice_at, problem_of}
use Rattle.lv_labels.specs.Rounds.{AreRounds, IsRound}
use Rattle.lv_labels.specs.Runs.{IsLabelledRun, IsStart, IsState, LabelEquation, touched}
use Rattle.lv_labels.specs.Monitor.{IsCaught}
use Rattle.lv_labels.specs.Vocabularies.{catch_vocabulary}
use Rattle.lv_temporal.proofs.Differ.{AreSortsThere}
use Rattle.lv_system.proofs.FitsFacts.{fitting}
use Rattle.lv_labels.specs.declared.which.Which.TheVariants as W
use Rattle.lv_labels.specs.Obligations.{BreaksCatch}
use Rattle.lv_temporal.specs.Small.{IsBroken}
use Rattle.lv_temporal.specs.Samples.{node}
use Rattle.lv_examples.specs.Visits.{after_moves, is_at, moved_outside, seen, two_moves, unguarded, unseen, visits}
use Rattle.lv_temporal.proofs.Bound.{touched_in_range}
use Rattle.lv_temporal.proofs.ClosedFits.{IsFit}
use Rattle.lv_temporal.proofs.Numbered.{catch_tables, catch_tables_sound}
use Rattle.lv_temporal.proofs.ProblemFits.{choices, problem_fits}
use Rattle.lv_temporal.proofs.SortsThere.{sorts_there}
use Rattle.lv_examples.proofs.Visits.{q}
use Rattle.lv_examples.proofs.VisitsProblem.{done, problem, problem-visits, unguarded_fits, unguarded_invariants_fit, visits_fit, visits_invariants_fit}

-- what holds at each position that there is holds at all of them
three : (P : ℕ → Type 0) → P 0 → P 1 → P 2 → (i : ℕ) → i ≤ 2 → P i
three P h k l zero b = h
three P h k l (suc zero) b = k
three P h k l (suc (suc zero)) b = l
three P h k l (suc (suc (suc i))) b = absurd (omega (arith, b))

two : (P : ℕ → Type 0) → P 0 → P 1 → (i : ℕ) → i < 2 → P i
two P h k zero b = h
two P h k (suc zero) b = k
two P h k (suc (suc i)) b = absurd (omega (arith, b))

below : 0 < 1
below = omega arith

is_state : (m : Meaning) → ((s : _) → 0 < m.size s) → m.value (Own 0) < m.size node → m.value (Witness 0) < m.size node → IsState q m
is_state m sizes own witness = record {
  sizes = sizes;
  constants = constant_found (λ c s. m.value c < m.size s) (at ∷ (w ∷ []))
      (All-cons Is at (w ∷ []) own (All-cons Is w [] witness (All-nil Is)));
}
  where
    Is : ConShape → Type 0
    Is c = m.value c.sym < m.size c.sort

    at : ConShape
    at = record { sym = Own 0; sort = node }

    w : ConShape
    w = record { sym = Witness 0; sort = node }

start : IsStart q unseen
start = record { axioms = refl; inits = refl; denied = simp (FF.folds_at) refl; chosen = chosen }
  where
    chosen : (k : ℕ) → k < 1 → truth_in unseen (F.Any (choice_at q k).sort (choice_at q k).body) [] ≡ true
        → truth_in unseen (choice_at q k).body (0 ∷ []) ≡ true
    chosen zero l h = simp (FF.folds_at) refl
    chosen (suc k) l h = absurd (omega (arith, l))

-- before the second move nothing is done, as nothing was seen
not_done : (t : ℕ) → (after_moves 1).holds (Own 2) (t ∷ []) ≡ false
not_done t = ap (λ b. in_range unseen (node ∷ []) (t ∷ []) && b) unseen_then ∙ and-false (in_range unseen (node ∷ []) (t ∷ []))
  where
    unseen_then : truth_in unseen (seen 0) (t ∷ (0 ∷ [])) ≡ false
    unseen_then = simp (FF.folds_at) refl

not-is : (n : Meaning) (env : Env) → truth_in n (F.Not done) env ≡ not (n.holds (Own 2) (get_or env 0 0 ∷ []))
not-is n env = simp (FF.folds_at) refl

first_equation : LabelEquation q unseen (λ l tuple. (after_moves 1).holds (Label l) tuple)
first_equation zero b tuple inside = simp (FF.folds_at) refl
first_equation (suc l) b tuple inside = absurd (omega (arith, b))

second_equation : LabelEquation q (after_moves 1) (λ l tuple. (after_moves 2).holds (Label l) tuple)
second_equation zero b tuple inside = sym (ap (λ c. c && true) (not-is (after_moves 1) (reverse tuple) ∙ ap not (not_done (get_or (reverse tuple) 0 0))))
second_equation (suc l) b tuple inside = absurd (omega (arith, b))

run : IsLabelledRun q two_moves
run = record {
  structures = three (λ i. IsState q (after_moves i)) (is_state unseen (λ s. below) below below)
      (is_state (after_moves 1) (λ s. below) below below) (is_state (after_moves 2) (λ s. below) below below);
  start = start;
  actions = λ i l. below;
  allowed = two (λ i. IsAllowed (action_at visits 0) (0 ∷ []) (after_moves i))
      (record { in_sorts = refl; guard = simp (FF.folds_at) refl }) (record { in_sorts = refl; guard = simp (FF.folds_at) refl });
  steps = λ i l. record { sizes = λ s. refl; relations = λ r tuple. refl; constants = λ c. refl };
  witnesses = λ i l k. refl;
  labels = two (λ i. LabelEquation q (after_moves i) (λ l tuple. (after_moves (suc i)).holds (Label l) tuple)) first_equation second_equation;
}

fit : IsFit q
fit = subst IsFit (problem-visits visits.invariants) (problem_fits visits visits_fit visits_invariants_fit)

-- what is touched is the one node
only_node : (i : ℕ) → i ≤ 2 → (x : ℕ) → touched q two_moves i node x ≡ true → x ≡ 0
only_node i l x h = let k : x < 1 = ltb-true x 1 (touched_in_range q two_moves fit run i l node x h) in omega (arith, k)

at-is : (n : Meaning) (x : ℕ) → truth_in n (is_at 0) (reverse (x ∷ [])) ≡ eqb (n.value (Own 0)) x
at-is n x = simp (FF.folds_at) refl

here : (m : Meaning) → m.value (Own 0) ≡ 0 → (x : ℕ) → x ≡ 0 → truth_in m (is_at 0) (reverse (x ∷ [])) ≡ true
here m e x z = at-is m x ∙ ap₂ (λ c y. eqb c y) e z

visited : (i : ℕ) → i ≤ 2 → (after_moves i).value (Own 0) ≡ 0 → (tuple : List ℕ) → over (touched q two_moves i) (node ∷ []) tuple ≡ true
    → truth_in (after_moves i) (is_at 0) (reverse tuple) ≡ true
visited i l e [] o = absurd (false≢true o)
visited i l e (x ∷ []) o = here (after_moves i) e x (only_node i l x (and_parts (touched q two_moves i node x) true o).0)
visited i l e (x ∷ (y ∷ ys)) o = absurd (false≢true (and_parts (touched q two_moves i node x) false o).1)

first_round : IsRound q two_moves 0 1
first_round zero b tuple o = (0, omega arith, omega arith, visited 0 (omega arith) refl tuple o)
first_round (suc zero) b tuple o = (0, omega arith, omega arith, simp (FF.folds_at) refl)
first_round (suc (suc c)) b tuple o = absurd (omega (arith, b))

second_round : IsRound q two_moves 1 2
second_round zero b tuple o = (1, omega arith, omega arith, visited 1 (omega arith) refl tuple o)
second_round (suc zero) b tuple o = (1, omega arith, omega arith, simp (FF.folds_at) refl)
second_round (suc (suc c)) b tuple o = absurd (omega (arith, b))

pub visits_run : IsLabelledRun (problem_of visits) two_moves
visits_run = subst (λ r. IsLabelledRun r two_moves) (sym (problem-visits visits.invariants)) run

pub visits_rounds : AreRounds (problem_of visits) two_moves 0 (1 ∷ (2 ∷ []))
visits_rounds = subst (λ r. AreRounds r two_moves 0 (1 ∷ (2 ∷ []))) (sym (problem-visits visits.invariants))
    (omega arith, omega arith, first_round, (omega arith, omega arith, second_round, tt))

-- ---- a caught structure

abbrev u : Problem
u = problem unguarded.invariants

caught : IsCaught u moved_outside
caught = record {
  saved = refl;
  none_due = λ j l tuple. refl;
  returned = record {
    relations = λ r sorts l free is tuple o. refl;
    labels = λ l b tuple o. refl;
    constants = λ c sort l free is. refl;
  };
}

breaks : BreaksCatch u moved_outside
breaks = record { axioms = refl; invariants = simp (FF.folds_at) refl; caught = caught }

within : (n : ℕ) → n < 3 → n < 3
within n l = l

structure : IsStructureOf (catch_vocabulary u) moved_outside
structure = record {
  sizes = λ s. omega arith;
  constants = constant_found (λ c s. moved_outside.value c < 3) (at ∷ (w ∷ (saved_at ∷ [])))
      (All-cons Is at (w ∷ (saved_at ∷ [])) (within 1 (omega arith))
      (All-cons Is w (saved_at ∷ []) (within 0 (omega arith)) (All-cons Is saved_at [] (within 2 (omega arith)) (All-nil Is))));
}
  where
    Is : ConShape → Type 0
    Is c = moved_outside.value c.sym < 3

    at : ConShape
    at = record { sym = Own 0; sort = node }

    w : ConShape
    w = record { sym = Witness 0; sort = node }

    saved_at : ConShape
    saved_at = record { sym = Copy 0; sort = node }

pub unguarded_structure : IsStructureOf (catch_vocabulary (problem_of unguarded)) moved_outside
unguarded_structure = subst (λ r. IsStructureOf (catch_vocabulary r) moved_outside) (sym (problem-visits unguarded.invariants)) structure

pub unguarded_caught : BreaksCatch (problem_of unguarded) moved_outside
unguarded_caught = subst (λ r. BreaksCatch r moved_outside) (sym (problem-visits unguarded.invariants)) breaks

abbrev unguarded_fit : IsFit (problem_of unguarded)
unguarded_fit = problem_fits unguarded unguarded_fits unguarded_invariants_fit

abbrev there : AreSortsThere (problem_of unguarded)
there = sorts_there unguarded (fitting unguarded unguarded_fits)

pub unguarded_broken : IsBroken unguarded W.Catch
unguarded_broken = (
  tables_of (catch_vocabulary (problem_of unguarded)) moved_outside,
  catch_tables_sound (problem_of unguarded) unguarded_fit there (choices unguarded unguarded_fits) moved_outside unguarded_structure,
  vocabulary-tables_of (catch_vocabulary (problem_of unguarded)) moved_outside,
  catch_tables (problem_of unguarded) unguarded_fit there (choices unguarded unguarded_fits) moved_outside unguarded_structure unguarded_caught,
)
