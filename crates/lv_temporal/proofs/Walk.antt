-- The walk of the monitor along a labelled run.
use Rattle.std.proofs.Common.{◌≡◌, ℕ, zero, suc, ◌<◌, ◌≤◌, Bool, true, false, not, ◌&&◌, ◌||◌, eqb, ltb, leb, cond, refl, sym, ap, ap₂, ◌∙◌, List, [], length, get_or, reverse, Some, arith, eqb-true, zero-le, inl, inr, lt-ltb, ltb-true, le_of_lt, subst}
use Rattle.std.proofs.Math.Bool.{and-true, or-false, or_comm}
use Rattle.std.proofs.lemmas.Bool.{and_parts, and_from, cases_Bool, cases_eq, cond_both, le-leb, lt-leb, or_cases, or_left, or_right}
use Rattle.lv_formula.specs.declared.symbols.SortId.{SortId}
use Rattle.lv_formula.specs.declared.symbols.Sym.{Sym}
use Rattle.lv_formula.specs.declared.symbols.Sym.TheVariants.{Own, Witness, Label, Frozen, Saved, Due, Copy, CopyLabel, Next, Param}
use Rattle.lv_formula.specs.declared.formula.Formula.{Formula}
use Rattle.lv_formula.specs.Fits.{fits_in}
use Rattle.lv_formula.specs.Meaning.{IsStructureOf, Meaning, in_range, is_element}
use Rattle.lv_formula.specs.Tuples.{over}
use Rattle.lv_formula.specs.Truth.{Env, all_true_in, any_below, truth_in}
use Rattle.lv_formula.proofs.Below.{all_below-fails, any_below-holds}
use Rattle.lv_formula.proofs.Readings.{all_below-from, any_below-some}
use Rattle.lv_system.specs.declared.parts.Parts.{Parts}
use Rattle.lv_system.specs.declared.parts.Action.{Action}
use Rattle.lv_system.specs.Step.{IsAllowed, action_at, set_holds, set_value, symbol_at}
use Rattle.lv_system.specs.Vocabularies.{constant_sort, fixed_vocabulary, own_vocabulary}
use Rattle.lv_labels.specs.Problem.{Problem, choice_at, justice_at, label_at, state_vocabulary}
use Rattle.lv_labels.specs.Runs.{IsLabelledRun, LabelEquation, Run, is_constant, is_constant_value, is_denoted, is_finite, is_passed, is_witness_value, touched}
use Rattle.lv_labels.specs.Rounds.{IsRound}
use Rattle.lv_labels.proofs.Ranges.{over_length, over_same}
use Rattle.lv_temporal.proofs.Scoped.{is_sort_true}
use Rattle.lv_temporal.proofs.Touched.{passed_in}
use Rattle.lv_labels.specs.declared.moves.Move.{Move}
use Rattle.lv_labels.specs.declared.moves.Move.TheVariants.{Stay, Freeze, Save}
use Rattle.lv_labels.specs.Monitor.{MayMove, NoneDue, elements_in, is_due_then, is_freeze, is_gained, is_kept, is_save, is_touched, opening}
use Rattle.lv_labels.specs.Vocabularies.{catch_vocabulary, step_vocabulary}
use Rattle.lv_temporal.proofs.Found.{IsConstantWord, catch-constant_found, step-constant_found, witness-state}
use Rattle.lv_temporal.proofs.Words.{no_sort_id}
use Rattle.lv_labels.specs.Obligations.{invariants_of}
use Rattle.lv_temporal.specs.Walk.{IsAt, beside, is_never_met, next_labels, step_along}
use Rattle.lv_temporal.proofs.Agreement.{all_true_same, truth_same}
use Rattle.lv_temporal.proofs.Basics.{and_false_if, first_due, gained_or_listed, held, later_due}
use Rattle.lv_temporal.proofs.ClosedFits.{IsFit}
use Rattle.lv_temporal.proofs.SameWords.{SameFixed, beside_at, beside_same, fixed_at, fixed_same, own_at, own_constant_in_range, own_same, state_same}
use Rattle.lv_temporal.proofs.Sense.{AreKept}
use Rattle.lv_temporal.proofs.Steps.{elements_beside, over_at, set_holds_fixed, set_holds_same, set_value_fixed, set_value_same}

-- the monitored structure at each position, where these moves are made
unfoldable pub walk : Problem → Run → (ℕ → Move) → ℕ → Meaning
walk q r mv zero = opening q (r.at 0)
walk q r mv (suc i) = step_along q r i (mv i) (walk q r mv i)

-- the walk begins with the opening
pub walk_opened : (q : Problem) (r : Run) (mv : ℕ → Move) → walk q r mv 0 ≡ opening q (r.at 0)
unfolding walk
walk_opened q r mv = refl

-- and goes on by steps of the monitor
pub walk_steps : (q : Problem) (r : Run) (mv : ℕ → Move) (i : ℕ) → walk q r mv (suc i) ≡ step_along q r i (mv i) (walk q r mv i)
unfolding walk
walk_steps q r mv i = refl

opening_at : (q : Problem) (m : Meaning) → IsAt (opening q m) m
opening_at q m = record { sizes = λ s. refl; relations = λ r tuple. refl; labels = λ l tuple. refl; constants = λ c. refl; witnesses = λ k. refl }

-- some changing constant of the sort is the element
abbrev is_changing_value : Parts → (ℕ → ℕ) → SortId → ℕ → Bool
is_changing_value p value sort x = any_below (length p.symbols) (λ c. (not (symbol_at p c).fixed && is_constant (symbol_at p c) sort) && eqb (value c) x)

changing_is_constant : (p : Parts) (value : ℕ → ℕ) (sort : SortId) (x : ℕ) → is_changing_value p value sort x ≡ true → is_constant_value p value sort x ≡ true
changing_is_constant p value sort x h =
    let w = any_below-some (length p.symbols) (λ c. (not (symbol_at p c).fixed && is_constant (symbol_at p c) sort) && eqb (value c) x) h in
    let a = and_parts (not (symbol_at p w.0).fixed && is_constant (symbol_at p w.0) sort) (eqb (value w.0) x) w.2 in
    let b = and_parts (not (symbol_at p w.0).fixed) (is_constant (symbol_at p w.0) sort) a.0 in
    any_below-holds (length p.symbols) (λ c. is_constant (symbol_at p c) sort && eqb (value c) x) w.0 w.1 (and_from (is_constant (symbol_at p w.0) sort) (eqb (value w.0) x) b.1 a.1)

-- the element that an own constant is, is an element of the constant's sort
pub constant_value_in_range : (q : Problem) (m : Meaning) → IsStructureOf (state_vocabulary q) m → (s : SortId) (x : ℕ) → is_constant_value q.parts (λ c. m.value (Own c)) s x ≡ true → is_element m s x ≡ true
constant_value_in_range q m st s x h =
    let w = any_below-some (length q.parts.symbols) (λ c. is_constant (symbol_at q.parts c) s && eqb (m.value (Own c)) x) h in
    let b = and_parts (is_constant (symbol_at q.parts w.0) s) (eqb (m.value (Own w.0)) x) w.2 in
    subst (λ y. is_element m s y ≡ true) (eqb-true (m.value (Own w.0)) x b.1) (lt-ltb (m.value (Own w.0)) (m.size s) (own_constant_in_range q m st w.0 s w.1 (is_sort_true (constant_sort (symbol_at q.parts w.0).shape) s b.0)))

module _ (q : Problem) (r : Run) (fit : IsFit q) (run : IsLabelledRun q r) (mv : ℕ → Move) where
  abbrev action : ℕ → Action
  action i = action_at q.parts (r.action i)

  abbrev before : ℕ → Meaning
  before i = beside (walk q r mv i) (r.elements i) (next_labels r i)

  elements_at : (i : ℕ) → i < r.last → elements_in (before i) (action i) ≡ r.elements i
  elements_at i l = elements_beside (walk q r mv i) (action i) (r.elements i) (next_labels r i) (over_length (is_element (r.at i)) (action i).params (r.elements i) (run.allowed i l).in_sorts)

  own_relation : (i : ℕ) → i < r.last → IsAt (walk q r mv i) (r.at i) → (x : ℕ) (tuple : List ℕ) → set_holds q.parts (elements_in (before i) (action i)) (before i) (action i).updates x tuple ≡ (r.at (suc i)).holds (Own x) tuple
  own_relation i l h x tuple =
      ap (λ es. set_holds q.parts es (before i) (action i).updates x tuple) (elements_at i l)
      ∙ (set_holds_same q.parts (before i) (r.at i) (own_at (before i) (r.at i) (beside_at (walk q r mv i) (r.at i) (r.elements i) (next_labels r i) h)) (action i).params (r.elements i) (action i).updates (fit.updates (r.action i) (run.actions i l)) x tuple
      ∙ sym ((run.steps i l).relations x tuple))

  own_constant : (i : ℕ) → i < r.last → IsAt (walk q r mv i) (r.at i) → (c : ℕ) → set_value (elements_in (before i) (action i)) (before i) (action i).updates c ≡ (r.at (suc i)).value (Own c)
  own_constant i l h c =
      ap (λ es. set_value es (before i) (action i).updates c) (elements_at i l)
      ∙ (set_value_same q.parts (before i) (r.at i) (own_at (before i) (r.at i) (beside_at (walk q r mv i) (r.at i) (r.elements i) (next_labels r i) h)) (action i).params (r.elements i) (action i).updates (fit.updates (r.action i) (run.actions i l)) c
      ∙ sym ((run.steps i l).constants c))

  -- the walk's state is the run's
  pub state_at : (i : ℕ) → i ≤ r.last → IsAt (walk q r mv i) (r.at i)
  unfolding walk
  state_at zero l = opening_at q (r.at 0)
  state_at (suc i) l = step_at i l (state_at i (omega arith))
    where
      step_at : (k : ℕ) → k < r.last → IsAt (walk q r mv k) (r.at k) → IsAt (step_along q r k (mv k) (walk q r mv k)) (r.at (suc k))
      step_at k l h = record {
        sizes = λ s. h.sizes s ∙ sym ((run.steps k l).sizes s);
        relations = own_relation k l h;
        labels = λ x tuple. refl;
        constants = own_constant k l h;
        witnesses = λ x. h.witnesses x ∙ sym (run.witnesses k l x);
      }

  before_at : (i : ℕ) → i ≤ r.last → IsAt (before i) (r.at i)
  before_at i l = beside_at (walk q r mv i) (r.at i) (r.elements i) (next_labels r i) (state_at i l)

  -- what a formula over the state says there is what it says in the run
  state_truth : (i : ℕ) → i ≤ r.last → (f : Formula) (ctx : List SortId) (env : Env) → fits_in (state_vocabulary q) ctx f ≡ true → truth_in (before i) f env ≡ truth_in (r.at i) f env
  state_truth i l f ctx env u = truth_same (state_vocabulary q) (before i) (r.at i) (state_same q (before i) (r.at i) (before_at i l)) f ctx env u

  -- fixed symbols never change
  pub fixed_along : (i : ℕ) → i ≤ r.last → SameFixed q.parts (r.at 0) (r.at i)
  fixed_along zero l = record { sizes = λ s. refl; relations = λ x e tuple. refl; constants = λ x e. refl }
  fixed_along (suc i) l = step_fixed i l (fixed_along i (omega arith))
    where
      step_fixed : (k : ℕ) → k < r.last → SameFixed q.parts (r.at 0) (r.at k) → SameFixed q.parts (r.at 0) (r.at (suc k))
      step_fixed k l h = record {
        sizes = λ s. h.sizes s ∙ sym ((run.steps k l).sizes s);
        relations = λ x e tuple. h.relations x e tuple ∙ (sym (set_holds_fixed q.parts (r.at k) (action k).params (r.elements k) (action k).updates (fit.updates (r.action k) (run.actions k l)) x e tuple) ∙ sym ((run.steps k l).relations x tuple));
        constants = λ x e. h.constants x e ∙ (sym (set_value_fixed q.parts (r.at k) (action k).params (r.elements k) (action k).updates (fit.updates (r.action k) (run.actions k l)) x e) ∙ sym ((run.steps k l).constants x));
      }

  axioms_in : (m : Meaning) (i : ℕ) → i ≤ r.last → IsAt m (r.at i) → all_true_in m q.parts.axioms [] ≡ true
  axioms_in m i l h =
      all_true_same (fixed_vocabulary q.parts) m (r.at i) (fixed_same q.parts m (r.at i) (fixed_at q.parts m (r.at i) h)) q.parts.axioms [] [] fit.axioms
      ∙ (sym (all_true_same (fixed_vocabulary q.parts) (r.at 0) (r.at i) (fixed_same q.parts (r.at 0) (r.at i) (fixed_along i l)) q.parts.axioms [] [] fit.axioms)
      ∙ run.start.axioms)

  -- the axioms are true at each position of the walk
  pub axioms_at : (i : ℕ) → i ≤ r.last → all_true_in (walk q r mv i) q.parts.axioms [] ≡ true
  axioms_at i l = axioms_in (walk q r mv i) i l (state_at i l)

  -- sorts keep their size along the walk
  pub size_at : (i : ℕ) → i ≤ r.last → (s : SortId) → (walk q r mv i).size s ≡ (r.at 0).size s
  size_at i l s = (state_at i l).sizes s ∙ sym ((fixed_along i l).sizes s)

  -- the elements are frozen where some earlier move was a freeze
  pub frozen_at : (i : ℕ) → (walk q r mv i).holds Frozen [] ≡ any_below i (λ k. is_freeze (mv k))
  unfolding walk
  frozen_at zero = refl
  frozen_at (suc i) = ap (λ b. is_freeze (mv i) || b) (frozen_at i) ∙ or_comm (is_freeze (mv i)) (any_below i (λ k. is_freeze (mv k)))

  -- the state is saved where some earlier move was a save
  pub saved_at : (i : ℕ) → (walk q r mv i).holds Saved [] ≡ any_below i (λ k. is_save (mv k))
  unfolding walk
  saved_at zero = refl
  saved_at (suc i) = ap (λ b. is_save (mv i) || b) (saved_at i) ∙ or_comm (is_save (mv i)) (any_below i (λ k. is_save (mv k)))

  -- what the run touches in the step from i
  touched_now : ℕ → SortId → ℕ → Bool
  touched_now i s x = is_passed (action i).params (r.elements i) s x || is_changing_value q.parts (λ c. (r.at (suc i)).value (Own c)) s x

  gained_is : (i : ℕ) → i < r.last → (s : SortId) (x : ℕ) → is_gained q (action i) (before i) s x ≡ touched_now i s x
  unfolding touched_now
  gained_is i l s x = ap₂ (λ a b. a || b) (ap (λ es. is_passed (action i).params es s x) (elements_at i l))
      (λ j. any_below (length q.parts.symbols) (λ c. (not (symbol_at q.parts c).fixed && is_constant (symbol_at q.parts c) s) && eqb (own_constant i l (state_at i (le_of_lt l)) c j) x))

  now_in_range : (i : ℕ) → i < r.last → (s : SortId) (x : ℕ) → touched_now i s x ≡ true → is_element (r.at 0) s x ≡ true
  unfolding touched_now
  now_in_range i l s x h = elim (or_cases (is_passed (action i).params (r.elements i) s x) (is_changing_value q.parts (λ c. (r.at (suc i)).value (Own c)) s x) h) [
    | inl a ↦ rw (fixed_along i (le_of_lt l)).sizes (passed_in (r.at i) (action i).params (r.elements i) s x (run.allowed i l).in_sorts a)
    | inr a ↦ rw (fixed_along (suc i) l).sizes (constant_value_in_range q (r.at (suc i)) (run.structures (suc i) l) s x (changing_is_constant q.parts (λ c. (r.at (suc i)).value (Own c)) s x a))
  ]

  now_listed : (i : ℕ) (s : SortId) (x : ℕ) → touched_now i s x ≡ true → (is_denoted q (r.at (suc i)) s x || is_passed (action i).params (r.elements i) s x) ≡ true
  unfolding touched_now
  now_listed i s x h = elim (or_cases (is_passed (action i).params (r.elements i) s x) (is_changing_value q.parts (λ c. (r.at (suc i)).value (Own c)) s x) h) [
    | inl a ↦ or_right (is_denoted q (r.at (suc i)) s x) (is_passed (action i).params (r.elements i) s x) a
    | inr a ↦ or_left (is_denoted q (r.at (suc i)) s x) (is_passed (action i).params (r.elements i) s x)
        (or_left (is_constant_value q.parts (λ c. (r.at (suc i)).value (Own c)) s x) (is_witness_value q (r.at (suc i)) s x) (changing_is_constant q.parts (λ c. (r.at (suc i)).value (Own c)) s x a))
  ]

  abbrev listed_until : ℕ → SortId → ℕ → Bool
  listed_until i s x = any_below (suc i) (λ k. is_denoted q (r.at k) s x)

  listed_before : (i : ℕ) (s : SortId) (x : ℕ) → is_denoted q (r.at i) s x ≡ true → listed_until i s x ≡ true
  listed_before i s x h = or_right (any_below i (λ k. is_denoted q (r.at k) s x)) (is_denoted q (r.at i) s x) h

  listed_now : (i : ℕ) → i < r.last → (s : SortId) (x : ℕ) → is_denoted q (r.at (suc i)) s x ≡ true → (touched_now i s x || listed_until i s x) ≡ true
  unfolding touched_now
  listed_now i l s x h = elim (or_cases (is_constant_value q.parts (λ c. (r.at (suc i)).value (Own c)) s x) (is_witness_value q (r.at (suc i)) s x) h) [
    | inl a ↦ own (any_below-some (length q.parts.symbols) (λ c. is_constant (symbol_at q.parts c) s && eqb ((r.at (suc i)).value (Own c)) x) a)
    | inr a ↦ or_right (touched_now i s x) (listed_until i s x) (listed_before i s x (or_right (is_constant_value q.parts (λ c. (r.at i).value (Own c)) s x) (is_witness_value q (r.at i) s x) (witness a)))
  ]
    where
      witness : is_witness_value q (r.at (suc i)) s x ≡ true → is_witness_value q (r.at i) s x ≡ true
      witness a = (λ j. any_below (length q.choices) (λ k. eqb (choice_at q k).sort.0 s.0 && eqb (sym (run.witnesses i l k) j) x)) ∙ a

      own : (c : ℕ) × (c < length q.parts.symbols) × ((is_constant (symbol_at q.parts c) s && eqb ((r.at (suc i)).value (Own c)) x) ≡ true) → (touched_now i s x || listed_until i s x) ≡ true
      own w =
          let b = and_parts (is_constant (symbol_at q.parts w.0) s) (eqb ((r.at (suc i)).value (Own w.0)) x) w.2 in
          elim (cases_Bool (symbol_at q.parts w.0).fixed) [
            | inl f ↦ or_right (touched_now i s x) (listed_until i s x) (listed_before i s x (or_left (is_constant_value q.parts (λ c. (r.at i).value (Own c)) s x) (is_witness_value q (r.at i) s x)
                (any_below-holds (length q.parts.symbols) (λ c. is_constant (symbol_at q.parts c) s && eqb ((r.at i).value (Own c)) x) w.0 w.1
                (and_from (is_constant (symbol_at q.parts w.0) s) (eqb ((r.at i).value (Own w.0)) x) b.0
                (ap (λ v. eqb v x) (sym ((fixed_along i (le_of_lt l)).constants w.0 f) ∙ (fixed_along (suc i) l).constants w.0 f) ∙ b.1)))))
            | inr f ↦ or_left (touched_now i s x) (listed_until i s x) (or_right (is_passed (action i).params (r.elements i) s x) (is_changing_value q.parts (λ c. (r.at (suc i)).value (Own c)) s x)
                (any_below-holds (length q.parts.symbols) (λ c. (not (symbol_at q.parts c).fixed && is_constant (symbol_at q.parts c) s) && eqb ((r.at (suc i)).value (Own c)) x) w.0 w.1
                (and_from (not (symbol_at q.parts w.0).fixed && is_constant (symbol_at q.parts w.0) s) (eqb ((r.at (suc i)).value (Own w.0)) x)
                (and_from (not (symbol_at q.parts w.0).fixed) (is_constant (symbol_at q.parts w.0) s) (ap not f) b.0) b.1)))
          ]

  now_passed : (i : ℕ) (s : SortId) (x : ℕ) → is_passed (action i).params (r.elements i) s x ≡ true → touched_now i s x ≡ true
  unfolding touched_now
  now_passed i s x h = or_left (is_passed (action i).params (r.elements i) s x) (is_changing_value q.parts (λ c. (r.at (suc i)).value (Own c)) s x) h

  -- the walk's touched elements are the run's
  pub touched_at : (i : ℕ) → i ≤ r.last → (s : SortId) (x : ℕ) → is_touched (walk q r mv i) s x ≡ touched q r i s x
  unfolding walk
  touched_at zero l s x = ap (λ b. cond (is_finite q.parts s) (is_element (r.at 0) s x) b) (sym (or-false (is_denoted q (r.at 0) s x)))
  touched_at (suc i) l s x =
      ap₂ (λ a b. a || b) (gained_is i l s x) (touched_at i (le_of_lt l) s x)
      ∙ gained_or_listed (is_finite q.parts s) (touched_now i s x) (is_element (r.at 0) s x) (listed_until i s x) (any_below i (λ k. is_passed (action k).params (r.elements k) s x)) (is_denoted q (r.at (suc i)) s x) (is_passed (action i).params (r.elements i) s x)
      (now_in_range i l s x) (now_listed i s x) (listed_now i l s x) (now_passed i s x)

  -- one step of what is due
  abbrev moved : ℕ → Bool
  moved i = is_freeze (mv i) || is_save (mv i)

  abbrev is_met : ℕ → ℕ → List ℕ → Bool
  is_met j k tuple = truth_in (r.at k) (justice_at q j).body (reverse tuple)

  due_step : (i : ℕ) → i < r.last → (j : ℕ) → j < length q.justice → (tuple : List ℕ)
      → (walk q r mv (suc i)).holds (Due j) tuple ≡ (cond (moved i) (over (is_touched (walk q r mv i)) (justice_at q j).sorts tuple) ((walk q r mv i).holds (Due j) tuple) && not (is_met j i tuple))
  unfolding walk
  due_step i l j b tuple = ap (λ c. is_due_then q (mv i) (before i) j tuple && not c) (state_truth i (le_of_lt l) (justice_at q j).body (reverse (justice_at q j).sorts) (reverse tuple) (fit.justice j b))

  over_touched : (i : ℕ) → i ≤ r.last → (sorts : List SortId) (tuple : List ℕ) → over (is_touched (walk q r mv i)) sorts tuple ≡ over (touched q r i) sorts tuple
  over_touched i l sorts tuple = over_same (is_touched (walk q r mv i)) (touched q r i) (touched_at i l) sorts tuple

  due_opened : (j : ℕ) (tuple : List ℕ) → (walk q r mv 0).holds (Due j) tuple ≡ over (is_touched (walk q r mv 0)) (justice_at q j).sorts tuple
  unfolding walk
  due_opened j tuple = refl

  -- until the first move that is no stay, what is due is what is over the elements touched at first and was never met
  pub due_first : (i : ℕ) → i ≤ r.last → ((k : ℕ) → k < i → moved k ≡ false) → (j : ℕ) → j < length q.justice → (tuple : List ℕ)
      → (walk q r mv i).holds (Due j) tuple ≡ (over (touched q r 0) (justice_at q j).sorts tuple && is_never_met q r j tuple 0 i)
  due_first zero l h j b tuple = due_opened j tuple ∙ (over_touched 0 zero-le (justice_at q j).sorts tuple ∙ sym (and-true (over (touched q r 0) (justice_at q j).sorts tuple)))
  due_first (suc i) l h j b tuple = due_step i l j b tuple
      ∙ later_due (moved i) (over (is_touched (walk q r mv i)) (justice_at q j).sorts tuple) ((walk q r mv i).holds (Due j) tuple) (is_met j i tuple) (is_never_met q r j tuple 0 i) (leb 0 i) (over (touched q r 0) (justice_at q j).sorts tuple)
      (h i (omega arith)) (le-leb 0 i zero-le) (due_first i (omega arith) (λ k m. h k (omega arith)) j b tuple)

  -- the same from a freeze or a save at s on, until the next
  pub due_since : (s i : ℕ) → s < i → i ≤ r.last → moved s ≡ true → ((k : ℕ) → s < k → k < i → moved k ≡ false) → (j : ℕ) → j < length q.justice → (tuple : List ℕ)
      → (walk q r mv i).holds (Due j) tuple ≡ (over (touched q r s) (justice_at q j).sorts tuple && is_never_met q r j tuple s i)
  due_since s zero a l h g j b tuple = absurd (omega arith)
  due_since s (suc i) a l h g j b tuple = elim (cases_eq s i) [
    | inl e ↦ due_step i l j b tuple
        ∙ (first_due (moved i) (over (is_touched (walk q r mv i)) (justice_at q j).sorts tuple) ((walk q r mv i).holds (Due j) tuple) (is_met j i tuple) (is_never_met q r j tuple s i) (leb s i)
        (ap moved (sym e) ∙ h) (le-leb s i (omega (arith, e)))
        (all_below-from i (λ k. not (leb s k && is_met j k tuple)) (λ k m. ap (λ b. not (b && is_met j k tuple)) (lt-leb s k (omega (arith, e)))))
        ∙ ap (λ x. x && is_never_met q r j tuple s (suc i)) (over_touched i (le_of_lt l) (justice_at q j).sorts tuple ∙ ap (λ x. over (touched q r x) (justice_at q j).sorts tuple) (sym e)))
    | inr e ↦ due_step i l j b tuple
        ∙ later_due (moved i) (over (is_touched (walk q r mv i)) (justice_at q j).sorts tuple) ((walk q r mv i).holds (Due j) tuple) (is_met j i tuple) (is_never_met q r j tuple s i) (leb s i) (over (touched q r s) (justice_at q j).sorts tuple)
        (g i (omega (arith, e)) (omega arith)) (le-leb s i (omega arith)) (due_since s i (omega (arith, e)) (omega arith) h (λ k m n. g k m (omega arith)) j b tuple)
  ]

  never_fails : (s i j : ℕ) (tuple : List ℕ) → (k : ℕ) × (s ≤ k) × (k < i) × (is_met j k tuple ≡ true) → is_never_met q r j tuple s i ≡ false
  never_fails s i j tuple w = all_below-fails i (λ k. not (leb s k && is_met j k tuple)) w.0 w.2 (ap not (and_from (leb s w.0) (is_met j w.0 tuple) (le-leb s w.0 w.1) w.3))

  -- after a first round nothing is due
  pub none_due_first : (i : ℕ) → i ≤ r.last → ((k : ℕ) → k < i → moved k ≡ false) → IsRound q r 0 i → NoneDue q (walk q r mv i)
  none_due_first i l h round j b tuple = due_first i l h j b tuple
      ∙ and_false_if (over (touched q r 0) (justice_at q j).sorts tuple) (is_never_met q r j tuple 0 i) (λ o. never_fails 0 i j tuple (round j b tuple o))

  -- nor after a round from a freeze or a save on
  pub none_due_since : (s i : ℕ) → s < i → i ≤ r.last → moved s ≡ true → ((k : ℕ) → s < k → k < i → moved k ≡ false) → IsRound q r s i → NoneDue q (walk q r mv i)
  none_due_since s i a l h g round j b tuple = due_since s i a l h g j b tuple
      ∙ and_false_if (over (touched q r s) (justice_at q j).sorts tuple) (is_never_met q r j tuple s i) (λ o. never_fails s i j tuple (round j b tuple o))

  -- after a freeze what is kept is what was touched then
  pub kept_at : (f i : ℕ) → f < i → i ≤ r.last → is_freeze (mv f) ≡ true → ((k : ℕ) → f < k → k < i → is_freeze (mv k) ≡ false) → (s : SortId) (x : ℕ) → is_kept (walk q r mv i) s x ≡ touched q r f s x
  unfolding walk
  kept_at f i l b h g s x = held (λ k. is_kept (walk q r mv k) s x) (λ k. is_touched (walk q r mv k) s x) (λ k. is_freeze (mv k)) f i (λ k m. refl) l h g ∙ touched_at f (omega arith) s x

  -- after a save the copies are what the run was then
  pub copied_relation : (s i : ℕ) → s < i → i ≤ r.last → is_save (mv s) ≡ true → ((k : ℕ) → s < k → k < i → is_save (mv k) ≡ false) → (x : ℕ) (tuple : List ℕ) → (walk q r mv i).holds (Copy x) tuple ≡ (r.at s).holds (Own x) tuple
  unfolding walk
  copied_relation s i l b h g x tuple = held (λ k. (walk q r mv k).holds (Copy x) tuple) (λ k. (walk q r mv k).holds (Own x) tuple) (λ k. is_save (mv k)) s i (λ k m. refl) l h g ∙ (state_at s (omega arith)).relations x tuple

  -- each copy of a label is the label then
  pub copied_label : (s i : ℕ) → s < i → i ≤ r.last → is_save (mv s) ≡ true → ((k : ℕ) → s < k → k < i → is_save (mv k) ≡ false) → (x : ℕ) (tuple : List ℕ) → (walk q r mv i).holds (CopyLabel x) tuple ≡ (r.at s).holds (Label x) tuple
  unfolding walk
  copied_label s i l b h g x tuple = held (λ k. (walk q r mv k).holds (CopyLabel x) tuple) (λ k. (walk q r mv k).holds (Label x) tuple) (λ k. is_save (mv k)) s i (λ k m. refl) l h g ∙ (state_at s (omega arith)).labels x tuple

  -- each copy of a constant is the constant then
  pub copied_constant : (s i : ℕ) → s < i → i ≤ r.last → is_save (mv s) ≡ true → ((k : ℕ) → s < k → k < i → is_save (mv k) ≡ false) → (x : ℕ) → (walk q r mv i).value (Copy x) ≡ (r.at s).value (Own x)
  unfolding walk
  copied_constant s i l b h g x = held (λ k. (walk q r mv k).value (Copy x)) (λ k. (walk q r mv k).value (Own x)) (λ k. is_save (mv k)) s i (λ k m. refl) l h g ∙ (state_at s (omega arith)).constants x

  -- the walk goes through structures
  copies_at : (i : ℕ) → i ≤ r.last → (c : ℕ) (s : SortId) → c < length q.parts.symbols → constant_sort (symbol_at q.parts c).shape ≡ Some s → (walk q r mv i).value (Copy c) < (r.at 0).size s
  unfolding walk
  copies_at zero l c s b k = own_constant_in_range q (r.at 0) (run.structures 0 l) c s b k
  copies_at (suc i) l c s b k = cond_both (is_save (mv i)) ((walk q r mv i).value (Own c)) ((walk q r mv i).value (Copy c)) (λ v. v < (r.at 0).size s)
      (λ e. rw ((state_at i (le_of_lt l)).constants c, (fixed_along i (le_of_lt l)).sizes s) (own_constant_in_range q (r.at i) (run.structures i (le_of_lt l)) c s b k))
      (λ e. copies_at i (le_of_lt l) c s b k)

  -- each constant of the walk is an element of its sort
  word_in_range : (i : ℕ) → i ≤ r.last → (c : Sym) (s : SortId) → IsConstantWord q [] c s → (walk q r mv i).value c < (walk q r mv i).size s
  word_in_range i l (Own n) s w = rw ((state_at i l).constants n, (state_at i l).sizes s) (own_constant_in_range q (r.at i) (run.structures i l) n s w.0 w.1)
  word_in_range i l (Witness k) s w = rw ((state_at i l).witnesses k, (state_at i l).sizes s) ((run.structures i l).constants (Witness k) s (witness-state q k w.0 ∙ ap Some w.1))
  word_in_range i l (Copy n) s w = rw (size_at i l s) (copies_at i l n s w.0 w.2)
  word_in_range i l (Param k) s w = absurd (omega (arith, w.0))
  word_in_range i l _ s w = absurd w

  -- the walk goes through structures of the monitored vocabulary
  pub monitored_at : (i : ℕ) → i ≤ r.last → IsStructureOf (catch_vocabulary q) (walk q r mv i)
  monitored_at i l = record {
    sizes = λ s. rw (size_at i l s) ((run.structures 0 zero-le).sizes s);
    constants = λ c s e. word_in_range i l c s (catch-constant_found q c s e);
  }

  param_in_range : (i : ℕ) → i < r.last → (k : ℕ) → k < length (action i).params → get_or (r.elements i) k 0 < (walk q r mv i).size (get_or (action i).params k no_sort_id)
  param_in_range i l k b = rw ((state_at i (le_of_lt l)).sizes (get_or (action i).params k no_sort_id)) (ltb-true (get_or (r.elements i) k 0) ((r.at i).size (get_or (action i).params k no_sort_id))
      (over_at (is_element (r.at i)) (action i).params (r.elements i) no_sort_id k (run.allowed i l).in_sorts b))

  before_in_range : (i : ℕ) → i < r.last → (c : Sym) (s : SortId) → IsConstantWord q (action i).params c s → (before i).value c < (before i).size s
  before_in_range i l (Own n) s w = word_in_range i (le_of_lt l) (Own n) s w
  before_in_range i l (Witness k) s w = word_in_range i (le_of_lt l) (Witness k) s w
  before_in_range i l (Copy n) s w = word_in_range i (le_of_lt l) (Copy n) s w
  before_in_range i l (Param k) s w = subst (λ t. get_or (r.elements i) k 0 < (walk q r mv i).size t) w.1 (param_in_range i l k w.0)
  before_in_range i l _ s w = absurd w

  monitored_before : (i : ℕ) → i < r.last → IsStructureOf (step_vocabulary q (action i)) (before i)
  monitored_before i l = record {
    sizes = (monitored_at i (le_of_lt l)).sizes;
    constants = λ c s e. before_in_range i l c s (step-constant_found q (action i) c s e);
  }

  -- the invariants, where each move is allowed
  module _ (kept : AreKept q) (may : (i : ℕ) → i < r.last → MayMove q (mv i) (walk q r mv i)) where
    before_may : (m : Move) (i : ℕ) → MayMove q m (walk q r mv i) → MayMove q m (before i)
    before_may Stay i h = tt
    before_may Freeze i h = h
    before_may Save i h = h

    elements_same : (i : ℕ) → i < r.last → (sorts : List SortId) (tuple : List ℕ) → in_range (before i) sorts tuple ≡ in_range (r.at i) sorts tuple
    elements_same i l sorts tuple = over_same (is_element (before i)) (is_element (r.at i)) (λ s x. ap (λ n. ltb x n) ((state_at i (le_of_lt l)).sizes s)) sorts tuple

    allowed_before : (i : ℕ) → i < r.last → IsAllowed (action i) (elements_in (before i) (action i)) (before i)
    allowed_before i l = record {
      in_sorts = ap (λ es. in_range (before i) (action i).params es) (elements_at i l) ∙ (elements_same i l (action i).params (r.elements i) ∙ (run.allowed i l).in_sorts);
      guard = ap (λ es. truth_in (before i) (action i).guard (reverse es)) (elements_at i l)
          ∙ (truth_same (own_vocabulary q.parts) (before i) (r.at i) (own_same q.parts (before i) (r.at i) (own_at (before i) (r.at i) (before_at i (le_of_lt l)))) (action i).guard (reverse (action i).params) (reverse (r.elements i)) (fit.guards (r.action i) (run.actions i l))
          ∙ (run.allowed i l).guard);
    }

    labels_before : (i : ℕ) → i < r.last → LabelEquation q (before i) (λ x tuple. (before i).holds (Next x) tuple)
    labels_before i l x b tuple h = (state_at i (le_of_lt l)).labels x tuple
        ∙ (run.labels i l x b tuple (sym (elements_same i l (label_at q x).sorts tuple) ∙ h)
        ∙ ap (λ c. c && next_labels r i x tuple) (sym (state_truth i (le_of_lt l) (label_at q x).body (reverse (label_at q x).sorts) (reverse tuple) (fit.labels x b))))

    pub invariants_at : (i : ℕ) → i ≤ r.last → all_true_in (walk q r mv i) (invariants_of q.parts) [] ≡ true
    unfolding walk
    invariants_at zero l = kept.start (r.at 0) (run.structures 0 l) run.start
    invariants_at (suc i) l = kept.step (r.action i) (run.actions i l) (mv i) (before i) (monitored_before i l)
        (axioms_in (before i) i (le_of_lt l) (before_at i (le_of_lt l)))
        (all_true_same (catch_vocabulary q) (before i) (walk q r mv i) (beside_same q (walk q r mv i) (r.elements i) (next_labels r i)) (invariants_of q.parts) [] [] fit.invariants ∙ invariants_at i (le_of_lt l))
        (allowed_before i l) (before_may (mv i) i (may i l)) (labels_before i l)
