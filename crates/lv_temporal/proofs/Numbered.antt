-- Where the obligations are valid for structures as data, the invariants are kept and nothing is caught for structures as functions.
use Rattle.std.proofs.Common.{◌≡◌, ℕ, zero, suc, ◌+◌, ◌<◌, true, ◌&&◌, cond, ltb, List, [], ◌∷◌, ◌++◌, length, get_or, reverse, Some, None, refl, sym, ap, ap₂, subst, ◌∙◌, arith}
use Rattle.std.specs.List.{All}
use Rattle.std.proofs.Math.Bool.{and-false}
use Rattle.std.proofs.lemmas.Bool.{and_from, and_parts, false≢true, lt-ltb, true_from_ne_false}
use Rattle.std.proofs.lemmas.List.{length-map}
use Rattle.std.proofs.lemmas.List.Elements.{All-cons, All-head, All-nil, All-tail}
use Rattle.lv_formula.specs.declared.symbols.SortId.{SortId}
use Rattle.lv_formula.specs.declared.symbols.Sym.TheVariants.{Own, Witness, Label, Frozen, Saved, Kept, Due, Copy, CopyLabel, Next}
use Rattle.lv_formula.specs.declared.formula.Formula.{Formula}
use Rattle.lv_formula.specs.declared.formula.Formula.TheVariants.{True, Any}
use Rattle.lv_formula.specs.declared.vocabulary.Vocabulary.{Vocabulary}
use Rattle.lv_formula.specs.Fits.{all_fit_in, fits_in}
use Rattle.lv_formula.proofs.Folds.{folds_at}
use Rattle.lv_formula.specs.Meaning.{AgreeOn, IsStructureOf, Meaning, in_range, is_element}
use Rattle.lv_struct.specs.Tables.{IsSound, Tables, meaning}
use Rattle.lv_formula.specs.Tuples.{over}
use Rattle.lv_struct.specs.Tabulation.{tables_of}
use Rattle.lv_struct.proofs.Tabulate.{agrees-tables_of, holds-tables_of, sound-tables_of, vocabulary-tables_of}
use Rattle.lv_formula.specs.Truth.{all_true_in, truth_in}
use Rattle.lv_formula.proofs.AgreeLaw.{truth_agrees}
use Rattle.lv_system.specs.declared.parts.Action.{Action}
use Rattle.lv_system.specs.declared.parts.Invariant.{Invariant}
use Rattle.lv_system.specs.Step.{IsAllowed, action_at}
use Rattle.lv_system.specs.Vocabularies.{fixed_vocabulary, own_vocabulary}
use Rattle.lv_labels.specs.Problem.{Problem, choice_at, justice_at, label_at, state_vocabulary}
use Rattle.lv_labels.specs.Runs.{IsStart, LabelEquation}
use Rattle.lv_labels.specs.declared.moves.Move.{Move}
use Rattle.lv_labels.specs.declared.moves.Move.TheVariants.{Stay, Freeze, Save}
use Rattle.lv_labels.specs.Monitor.{IsCaught, LooksSaved, MayMove, NoneDue, elements_in, is_kept, opening, shown, stepped}
use Rattle.lv_labels.specs.Vocabularies.{catch_vocabulary, step_vocabulary}
use Rattle.lv_temporal.proofs.Differ.{AreSortsThere, catch-proper, state-proper, step-proper}
use Rattle.lv_temporal.proofs.Found.{catch-step, copy-catch, copy-constant_catch, copy_label-catch, due-catch, frozen-catch, kept-catch, label-state, next-step, own-constant_state, own-state, saved-catch, state-catch, state-constant_catch, witness-state}
use Rattle.lv_temporal.proofs.Words.{no_witness_decl}
use Rattle.lv_labels.specs.declared.which.Which.{Which}
use Rattle.lv_labels.specs.declared.which.Which.TheVariants as W
use Rattle.lv_labels.specs.Obligations.{BreaksCatch, BreaksStep, IsValid, formula_of, invariants_of, starts_from, steps_from, steps_of_move}
use Rattle.lv_temporal.proofs.Alike.{opening_agrees, opening_sound, range_same, state_truth}
use Rattle.lv_labels.proofs.Ranges.{over_reverse}
use Rattle.lv_temporal.proofs.AlikeAfter.{elements_same, stepped_agrees, stepped_sound}
use Rattle.lv_temporal.proofs.FitsMore.{all_fit_more, fits_more}
use Rattle.lv_temporal.proofs.Extends.{catch_extends_state, extends_self, state_extends_fixed, state_extends_own, step_extends_catch, step_extends_state}
use Rattle.lv_temporal.proofs.ClosedFits.{IsFit}
use Rattle.lv_temporal.proofs.Sense.{AreKept, NoneCaught}

-- ---- an obligation in its list

all_left : {X : Type 0} (P : X → Type 0) (xs ys : List X) → All P (xs ++ ys) → All P xs
all_left P [] ys h = All-nil P
all_left P (x ∷ xs) ys h = All-cons P x xs (All-head P x (xs ++ ys) h) (all_left P xs ys (All-tail P x (xs ++ ys) h))

all_right : {X : Type 0} (P : X → Type 0) (xs ys : List X) → All P (xs ++ ys) → All P ys
all_right P [] ys h = h
all_right P (x ∷ xs) ys h = all_right P xs ys (All-tail P x (xs ++ ys) h)

start_in : (P : Which → Type 0) (n : ℕ) (is : List Invariant) → All P (starts_from n is) → (i : ℕ) → i < length is → P (W.Start (n + i))
start_in P n [] h i l = absurd (omega arith)
start_in P n (x ∷ xs) h zero l = let here : n ≡ n + 0 = omega arith in subst (λ j. P (W.Start j)) here (All-head P (W.Start n) (starts_from (suc n) xs) h)
start_in P n (x ∷ xs) h (suc i) l = let there : suc n + i ≡ n + suc i = omega arith in subst (λ j. P (W.Start j)) there (start_in P (suc n) xs (All-tail P (W.Start n) (starts_from (suc n) xs) h) i (omega arith))

of_move_in : (P : Which → Type 0) (a : ℕ) (mv : Move) (n : ℕ) (is : List Invariant) → All P (steps_of_move a mv n is) → (i : ℕ) → i < length is → P (W.Step a mv (n + i))
of_move_in P a mv n [] h i l = absurd (omega arith)
of_move_in P a mv n (x ∷ xs) h zero l = let here : n ≡ n + 0 = omega arith in subst (λ j. P (W.Step a mv j)) here (All-head P (W.Step a mv n) (steps_of_move a mv (suc n) xs) h)
of_move_in P a mv n (x ∷ xs) h (suc i) l = let there : suc n + i ≡ n + suc i = omega arith in subst (λ j. P (W.Step a mv j)) there (of_move_in P a mv (suc n) xs (All-tail P (W.Step a mv n) (steps_of_move a mv (suc n) xs) h) i (omega arith))

move_in : (P : Which → Type 0) (a : ℕ) (is : List Invariant) (rest : List Which) → All P (steps_of_move a Stay 0 is ++ (steps_of_move a Freeze 0 is ++ (steps_of_move a Save 0 is ++ rest)))
    → (mv : Move) (i : ℕ) → i < length is → P (W.Step a mv i)
move_in P a is rest h Stay i l = let z : 0 + i ≡ i = omega arith in subst (λ j. P (W.Step a Stay j)) z (of_move_in P a Stay 0 is (all_left P (steps_of_move a Stay 0 is) _ h) i l)
move_in P a is rest h Freeze i l = let z : 0 + i ≡ i = omega arith in subst (λ j. P (W.Step a Freeze j)) z
    (of_move_in P a Freeze 0 is (all_left P (steps_of_move a Freeze 0 is) _ (all_right P (steps_of_move a Stay 0 is) _ h)) i l)
move_in P a is rest h Save i l = let z : 0 + i ≡ i = omega arith in subst (λ j. P (W.Step a Save j)) z
    (of_move_in P a Save 0 is (all_left P (steps_of_move a Save 0 is) rest (all_right P (steps_of_move a Freeze 0 is) _ (all_right P (steps_of_move a Stay 0 is) _ h))) i l)

step_in : (P : Which → Type 0) (is : List Invariant) (n : ℕ) (as' : List Action) → All P (steps_from is n as') → (k : ℕ) → k < length as' → (mv : Move) (i : ℕ) → i < length is → P (W.Step (n + k) mv i)
step_in P is n [] h k b mv i l = absurd (omega arith)
step_in P is n (a ∷ as') h zero b mv i l = let here : n ≡ n + 0 = omega arith in subst (λ j. P (W.Step j mv i)) here (move_in P n is (steps_from is (suc n) as') h mv i l)
step_in P is n (a ∷ as') h (suc k) b mv i l = let there : suc n + k ≡ n + suc k = omega arith in subst (λ j. P (W.Step j mv i)) there
    (step_in P is (suc n) as' (all_right P (steps_of_move n Save 0 is) _ (all_right P (steps_of_move n Freeze 0 is) _ (all_right P (steps_of_move n Stay 0 is) _ h))) k (omega arith) mv i l)

-- ---- lists of formulas

all_true_from : (m : Meaning) (fs : List Formula) (env : List ℕ) → ((i : ℕ) → i < length fs → truth_in m (get_or fs i True) env ≡ true) → all_true_in m fs env ≡ true
all_true_from m [] env h = refl
all_true_from m (f ∷ fs) env h = and_from (truth_in m f env) (all_true_in m fs env) (h 0 (omega arith)) (all_true_from m fs env (λ i l. h (suc i) (omega arith)))

fit_at : (voc : Vocabulary) (fs : List Formula) → all_fit_in voc [] fs ≡ true → (i : ℕ) → i < length fs → fits_in voc [] (get_or fs i True) ≡ true
fit_at voc [] h i l = absurd (omega arith)
fit_at voc (f ∷ fs) h zero l = (and_parts (fits_in voc [] f) (all_fit_in voc [] fs) h).0
fit_at voc (f ∷ fs) h (suc i) l = fit_at voc fs (and_parts (fits_in voc [] f) (all_fit_in voc [] fs) h).1 i (omega arith)

all_true_agrees : (voc : Vocabulary) (m n : Meaning) → IsStructureOf voc m → AgreeOn voc m n → (fs : List Formula) → all_fit_in voc [] fs ≡ true → all_true_in m fs [] ≡ all_true_in n fs []
all_true_agrees voc m n sound agrees [] h = refl
all_true_agrees voc m n sound agrees (f ∷ fs) h = let both = and_parts (fits_in voc [] f) (all_fit_in voc [] fs) h in
    ap₂ (λ a b. a && b) (truth_agrees voc m n sound agrees f [] [] both.0 refl) (all_true_agrees voc m n sound agrees fs both.1)

-- each witness has the sort of its declaration
pub record ChoicesAreWitnesses (q : Problem) : Type 0 where
  pub number : length q.choices ≡ length q.parts.witnesses
  pub sorts : (k : ℕ) → k < length q.choices → (choice_at q k).sort ≡ (get_or q.parts.witnesses k no_witness_decl).sort

module _ (q : Problem) (fit : IsFit q) (there : AreSortsThere q) (witnesses : ChoicesAreWitnesses q) where
  abbrev invariants : List Formula
  invariants = invariants_of q.parts

  invariant_number : (i : ℕ) → i < length invariants → i < length q.parts.invariants
  invariant_number i l = subst (λ n. i < n) (length-map q.parts.invariants formula_of) l

  axioms_fit : all_fit_in (state_vocabulary q) [] q.parts.axioms ≡ true
  axioms_fit = all_fit_more (fixed_vocabulary q.parts) (state_vocabulary q) (state_extends_fixed q) q.parts.axioms [] fit.axioms

  -- ---- starts

  module _ (m n : Meaning) (sound : IsStructureOf (state_vocabulary q) m) (agrees : AgreeOn (state_vocabulary q) m n) where
    abbrev choice_sort_there : (k : ℕ) → k < length q.choices → Type 0
    choice_sort_there k l = (choice_at q k).sort.0 < length q.parts.sorts

    sort_there : (k : ℕ) (l : k < length q.choices) → choice_sort_there k l
    sort_there k l = subst (λ s. s.0 < length q.parts.sorts) (sym (witnesses.sorts k l)) (there.witnesses k (subst (λ j. k < j) witnesses.number l))

    any_fits : (k : ℕ) → k < length q.choices → fits_in (state_vocabulary q) [] (Any (choice_at q k).sort (choice_at q k).body) ≡ true
    any_fits k l = simp folds_at (and_from (ltb (choice_at q k).sort.0 (length q.parts.sorts)) _ (lt-ltb _ _ (sort_there k l)) (fit.choices k l))

    witness_inside : (k : ℕ) → k < length q.choices → is_element m (choice_at q k).sort (m.value (Witness k)) ≡ true
    witness_inside k l = lt-ltb _ _ (subst (λ s. m.value (Witness k) < m.size s) (sym (witnesses.sorts k l)) (sound.constants (Witness k) _ (witness-state q k (subst (λ j. k < j) witnesses.number l))))

    start_agrees : IsStart q m → IsStart q n
    start_agrees start = record {
      axioms = sym (all_true_agrees (state_vocabulary q) m n sound agrees q.parts.axioms axioms_fit) ∙ start.axioms;
      inits = sym (all_true_agrees (state_vocabulary q) m n sound agrees q.parts.inits (all_fit_more (own_vocabulary q.parts) (state_vocabulary q) (state_extends_own q) q.parts.inits [] fit.inits)) ∙ start.inits;
      denied = sym (truth_agrees (state_vocabulary q) m n sound agrees q.denied [] [] fit.denied refl) ∙ start.denied;
      chosen = λ k l h.
          ap (λ v. truth_in n (choice_at q k).body (v ∷ [])) (sym (agrees.constants (Witness k) _ (witness-state q k (subst (λ j. k < j) witnesses.number l))))
          ∙ sym (truth_agrees (state_vocabulary q) m n sound agrees (choice_at q k).body ((choice_at q k).sort ∷ []) (m.value (Witness k) ∷ []) (fit.choices k l) (and_from _ true (witness_inside k l) refl))
          ∙ start.chosen k l (truth_agrees (state_vocabulary q) m n sound agrees (Any (choice_at q k).sort (choice_at q k).body) [] [] (any_fits k l) refl ∙ h);
    }

  starts_kept : All (IsValid q) (starts_from 0 q.parts.invariants) → (m : Meaning) → IsStructureOf (state_vocabulary q) m → IsStart q m → all_true_in (opening q m) invariants [] ≡ true
  starts_kept valid m sound start = all_true_from (opening q m) invariants [] (λ i l. true_from_ne_false _ (λ fails.
      let z : 0 + i ≡ i = omega arith in
      subst (λ j. IsValid q (W.Start j)) z (start_in (IsValid q) 0 q.parts.invariants valid i (invariant_number i l))
      (tables_of (state_vocabulary q) m) (sound-tables_of (state_vocabulary q) m (state-proper q there) sound) (vocabulary-tables_of (state_vocabulary q) m)
      (record {
        start = start_agrees m (meaning (tables_of (state_vocabulary q) m)) sound (agrees-tables_of (state_vocabulary q) m) start;
        fails = sym (truth_agrees (catch_vocabulary q) (opening q m) (opening q (meaning (tables_of (state_vocabulary q) m)))
            (opening_sound q there witnesses.number m (meaning (tables_of (state_vocabulary q) m)) (state_vocabulary q) (extends_self (state_vocabulary q)) sound (agrees-tables_of (state_vocabulary q) m))
            (opening_agrees q there witnesses.number m (meaning (tables_of (state_vocabulary q) m)) (state_vocabulary q) (extends_self (state_vocabulary q)) sound (agrees-tables_of (state_vocabulary q) m))
            (get_or invariants i True) [] [] (fit_at (catch_vocabulary q) invariants fit.invariants i l) refl) ∙ fails;
      })))

  -- ---- steps

  module _ (k : ℕ) (b : k < length q.parts.actions) (m : Meaning) (sound : IsStructureOf (step_vocabulary q (action_at q.parts k)) m) where
    abbrev a : Action
    a = action_at q.parts k

    abbrev w : Tables
    w = tables_of (step_vocabulary q a) m

    abbrev n : Meaning
    n = meaning w

    abbrev IsThere : SortId → Type 0
    IsThere s = s.0 < length q.parts.sorts

    agrees : AgreeOn (step_vocabulary q a) m n
    agrees = agrees-tables_of (step_vocabulary q a) m

    ranges : (sorts : List SortId) → All IsThere sorts → (tuple : List ℕ) → in_range m sorts tuple ≡ in_range n sorts tuple
    ranges = range_same q there witnesses.number m n (step_vocabulary q a) (step_extends_state q a) sound agrees

    state_formula : (f : Formula) (context : List SortId) (env : List ℕ) → fits_in (state_vocabulary q) context f ≡ true → in_range m context env ≡ true → truth_in m f env ≡ truth_in n f env
    state_formula = state_truth q there witnesses.number m n (step_vocabulary q a) (step_extends_state q a) sound agrees

    same_elements : in_range m a.params (elements_in m a) ≡ true → elements_in m a ≡ elements_in n a
    same_elements inside = elements_same q there witnesses.number fit a (fit.updates k b) m n sound agrees inside

    allowed_agrees : IsAllowed a (elements_in m a) m → IsAllowed a (elements_in n a) n
    allowed_agrees h = subst (λ es. IsAllowed a es n) (same_elements h.in_sorts) (record {
      in_sorts = sym (ranges a.params (there.params k b) (elements_in m a)) ∙ h.in_sorts;
      guard = sym (state_formula a.guard (reverse a.params) (reverse (elements_in m a))
          (fits_more (own_vocabulary q.parts) (state_vocabulary q) (state_extends_own q) a.guard (reverse a.params) (fit.guards k b))
          (over_reverse (is_element m) a.params (elements_in m a) h.in_sorts)) ∙ h.guard;
    })

    none_due-tables : NoneDue q m → NoneDue q n
    none_due-tables none j l tuple = holds-tables_of (step_vocabulary q a) m (Due j) (justice_at q j).sorts (catch-step q a (Due j) (justice_at q j).sorts (due-catch q j l)) tuple
        ∙ ap (λ c. in_range m (justice_at q j).sorts tuple && c) (none j l tuple) ∙ and-false (in_range m (justice_at q j).sorts tuple)

    frozen_same : m.holds Frozen [] ≡ n.holds Frozen []
    frozen_same = agrees.relations Frozen [] (catch-step q a Frozen [] (frozen-catch q)) [] refl

    saved_same : m.holds Saved [] ≡ n.holds Saved []
    saved_same = agrees.relations Saved [] (catch-step q a Saved [] (saved-catch q)) [] refl

    may_move_agrees : (mv : Move) → MayMove q mv m → MayMove q mv n
    may_move_agrees Stay h = tt
    may_move_agrees Freeze h = (sym frozen_same ∙ h.0, sym saved_same ∙ h.1, none_due-tables h.2)
    may_move_agrees Save h = (sym frozen_same ∙ h.0, sym saved_same ∙ h.1, none_due-tables h.2)

    labels_agree : LabelEquation q m (λ l tuple. m.holds (Next l) tuple) → LabelEquation q n (λ l tuple. n.holds (Next l) tuple)
    labels_agree h l c tuple inside =
        let here : in_range m (label_at q l).sorts tuple ≡ true = ranges (label_at q l).sorts (there.labels l c) tuple ∙ inside in
        sym (agrees.relations (Label l) (label_at q l).sorts ((step_extends_state q a).relations (Label l) (label_at q l).sorts (label-state q l c)) tuple here)
        ∙ h l c tuple here
        ∙ ap₂ (λ x y. x && y)
        (state_formula (label_at q l).body (reverse (label_at q l).sorts) (reverse tuple) (fit.labels l c) (over_reverse (is_element m) (label_at q l).sorts tuple here))
        (agrees.relations (Next l) (label_at q l).sorts (next-step q a l c) tuple here)

    invariants_agree : all_true_in m invariants [] ≡ all_true_in n invariants []
    invariants_agree = all_true_agrees (step_vocabulary q a) m n sound agrees invariants (all_fit_more (catch_vocabulary q) (step_vocabulary q a) (step_extends_catch q a) invariants [] fit.invariants)

    axioms_agree : all_true_in m q.parts.axioms [] ≡ all_true_in n q.parts.axioms []
    axioms_agree = all_true_agrees (step_vocabulary q a) m n sound agrees q.parts.axioms (all_fit_more (state_vocabulary q) (step_vocabulary q a) (step_extends_state q a) q.parts.axioms [] axioms_fit)

    after_agrees : (mv : Move) → in_range m a.params (elements_in m a) ≡ true → (i : ℕ) → i < length invariants → truth_in (stepped q mv a m) (get_or invariants i True) [] ≡ truth_in (stepped q mv a n) (get_or invariants i True) []
    after_agrees mv inside i l = truth_agrees (catch_vocabulary q) (stepped q mv a m) (stepped q mv a n)
        (stepped_sound q there witnesses.number fit a (fit.updates k b) m n sound agrees inside mv)
        (stepped_agrees q there witnesses.number fit a (fit.updates k b) m n sound agrees inside mv)
        (get_or invariants i True) [] [] (fit_at (catch_vocabulary q) invariants fit.invariants i l) refl

  -- a structure as functions that breaks a step has tables that break it
  pub step_tables : (k : ℕ) (b : k < length q.parts.actions) (mv : Move) (m : Meaning) → IsStructureOf (step_vocabulary q (action_at q.parts k)) m → (i : ℕ) → i < length invariants
      → BreaksStep q k mv i m → BreaksStep q k mv i (meaning (tables_of (step_vocabulary q (action_at q.parts k)) m))
  step_tables k b mv m sound i l h = record {
    axioms = sym (axioms_agree k b m sound) ∙ h.axioms;
    invariants = sym (invariants_agree k b m sound) ∙ h.invariants;
    allowed = allowed_agrees k b m sound h.allowed;
    may_move = may_move_agrees k b m sound mv h.may_move;
    labels = labels_agree k b m sound h.labels;
    fails = sym (after_agrees k b m sound mv h.allowed.in_sorts i l) ∙ h.fails;
  }

  pub step_tables_sound : (k : ℕ) → k < length q.parts.actions → (m : Meaning) → IsStructureOf (step_vocabulary q (action_at q.parts k)) m → IsSound (tables_of (step_vocabulary q (action_at q.parts k)) m)
  step_tables_sound k b m sound = sound-tables_of (step_vocabulary q (action_at q.parts k)) m (step-proper q there (action_at q.parts k) (there.params k b)) sound

  steps_kept : All (IsValid q) (steps_from q.parts.invariants 0 q.parts.actions) → (k : ℕ) → k < length q.parts.actions → (mv : Move) (m : Meaning) → IsStructureOf (step_vocabulary q (action_at q.parts k)) m
      → all_true_in m q.parts.axioms [] ≡ true → all_true_in m invariants [] ≡ true
      → IsAllowed (action_at q.parts k) (elements_in m (action_at q.parts k)) m → MayMove q mv m → LabelEquation q m (λ l tuple. m.holds (Next l) tuple)
      → all_true_in (stepped q mv (action_at q.parts k) m) invariants [] ≡ true
  steps_kept valid k b mv m sound axioms kept allowed may labels = all_true_from (stepped q mv (action_at q.parts k) m) invariants [] (λ i l. true_from_ne_false _ (λ fails.
      let z : 0 + k ≡ k = omega arith in
      subst (λ j. IsValid q (W.Step j mv i)) z (step_in (IsValid q) q.parts.invariants 0 q.parts.actions valid k b mv i (invariant_number i l))
      (tables_of (step_vocabulary q (action_at q.parts k)) m) (step_tables_sound k b m sound) (vocabulary-tables_of (step_vocabulary q (action_at q.parts k)) m)
      (step_tables k b mv m sound i l (record { axioms = axioms; invariants = kept; allowed = allowed; may_move = may; labels = labels; fails = fails }))))

  -- ---- the catch

  module _ (m : Meaning) (sound : IsStructureOf (catch_vocabulary q) m) where
    abbrev t : Tables
    t = tables_of (catch_vocabulary q) m

    abbrev u : Meaning
    u = meaning t

    same : AgreeOn (catch_vocabulary q) m u
    same = agrees-tables_of (catch_vocabulary q) m

    abbrev IsSort : SortId → Type 0
    IsSort s = s.0 < length q.parts.sorts

    kept-tables : (s : SortId) → IsSort s → (x : ℕ) → is_kept u s x ≡ ((is_element m s x && true) && is_kept m s x)
    kept-tables s l x = holds-tables_of (catch_vocabulary q) m (Kept s) (s ∷ []) (kept-catch q s l) (x ∷ [])

    kept-inside : (s : SortId) → IsSort s → (x : ℕ) → is_kept u s x ≡ true → (is_element m s x ≡ true) × (is_kept m s x ≡ true)
    kept-inside s l x h = let both = and_parts (is_element m s x && true) (is_kept m s x) (sym (kept-tables s l x) ∙ h) in ((and_parts (is_element m s x) true both.0).0, both.1)

    over_kept : (sorts : List SortId) → All IsSort sorts → (tuple : List ℕ) → over (is_kept u) sorts tuple ≡ true → (in_range m sorts tuple ≡ true) × (over (is_kept m) sorts tuple ≡ true)
    over_kept [] inside [] h = (refl, refl)
    over_kept [] inside (x ∷ xs) h = absurd (false≢true h)
    over_kept (s ∷ ss) inside [] h = absurd (false≢true h)
    over_kept (s ∷ ss) inside (x ∷ xs) h =
        let both = and_parts (is_kept u s x) (over (is_kept u) ss xs) h in
        let first = kept-inside s (All-head IsSort s ss inside) x both.0 in
        let rest = over_kept ss (All-tail IsSort s ss inside) xs both.1 in
        (and_from (is_element m s x) (in_range m ss xs) first.0 rest.0, and_from (is_kept m s x) (over (is_kept m) ss xs) first.1 rest.1)

    kept_value : (s : SortId) → IsSort s → (x : ℕ) → is_element m s x ≡ true → is_kept u s x ≡ is_kept m s x
    kept_value s l x e = kept-tables s l x ∙ ap (λ c. (c && true) && is_kept m s x) e

    shown-tables : (s : SortId) → IsSort s → (x y : ℕ) → x ≡ y → is_element m s x ≡ true → shown (is_kept m s) x ≡ shown (is_kept u s) y
    shown-tables s l x y e inside = ap (λ c. cond c (Some x) None) (sym (kept_value s l x inside)) ∙ ap (λ v. shown (is_kept u s) v) e

    looks-tables : LooksSaved q m → LooksSaved q u
    looks-tables h = record {
      relations = λ r sorts l free is tuple kept. let both = over_kept sorts (there.relations r sorts l is) tuple kept in
          sym (same.relations (Own r) sorts (state-catch q (Own r) sorts (own-state q r sorts l is)) tuple both.0)
          ∙ h.relations r sorts l free is tuple both.1
          ∙ same.relations (Copy r) sorts (copy-catch q r sorts l free is) tuple both.0;
      labels = λ l b tuple kept. let both = over_kept (label_at q l).sorts (there.labels l b) tuple kept in
          sym (same.relations (Label l) (label_at q l).sorts (state-catch q (Label l) (label_at q l).sorts (label-state q l b)) tuple both.0)
          ∙ h.labels l b tuple both.1
          ∙ same.relations (CopyLabel l) (label_at q l).sorts (copy_label-catch q l b) tuple both.0;
      constants = λ c s l free is.
          let own_in = state-constant_catch q (Own c) s (own-constant_state q c s l is) in
          let copy_in = copy-constant_catch q c s l free is in
          sym (shown-tables s (there.constants c s l is) (m.value (Own c)) (u.value (Own c)) (same.constants (Own c) s own_in) (lt-ltb _ _ (sound.constants (Own c) s own_in)))
          ∙ h.constants c s l free is
          ∙ shown-tables s (there.constants c s l is) (m.value (Copy c)) (u.value (Copy c)) (same.constants (Copy c) s copy_in) (lt-ltb _ _ (sound.constants (Copy c) s copy_in));
    }

    caught-tables : IsCaught q m → IsCaught q u
    caught-tables h = record {
      saved = sym (same.relations Saved [] (saved-catch q) [] refl) ∙ h.saved;
      none_due = λ j l tuple. holds-tables_of (catch_vocabulary q) m (Due j) (justice_at q j).sorts (due-catch q j l) tuple
          ∙ ap (λ c. in_range m (justice_at q j).sorts tuple && c) (h.none_due j l tuple) ∙ and-false (in_range m (justice_at q j).sorts tuple);
      returned = looks-tables h.returned;
    }

  -- a structure as functions that breaks the catch has tables that break it
  pub catch_tables : (m : Meaning) → IsStructureOf (catch_vocabulary q) m → BreaksCatch q m → BreaksCatch q (meaning (tables_of (catch_vocabulary q) m))
  catch_tables m sound h = record {
    axioms = sym (all_true_agrees (catch_vocabulary q) m (meaning (tables_of (catch_vocabulary q) m)) sound (agrees-tables_of (catch_vocabulary q) m) q.parts.axioms
        (all_fit_more (state_vocabulary q) (catch_vocabulary q) (catch_extends_state q) q.parts.axioms [] axioms_fit)) ∙ h.axioms;
    invariants = sym (all_true_agrees (catch_vocabulary q) m (meaning (tables_of (catch_vocabulary q) m)) sound (agrees-tables_of (catch_vocabulary q) m) invariants fit.invariants) ∙ h.invariants;
    caught = caught-tables m sound h.caught;
  }

  pub catch_tables_sound : (m : Meaning) → IsStructureOf (catch_vocabulary q) m → IsSound (tables_of (catch_vocabulary q) m)
  catch_tables_sound m sound = sound-tables_of (catch_vocabulary q) m (catch-proper q there) sound

  none_caught : IsValid q W.Catch → NoneCaught q
  none_caught valid m sound axioms kept caught =
      valid (tables_of (catch_vocabulary q) m) (catch_tables_sound m sound) (vocabulary-tables_of (catch_vocabulary q) m)
      (catch_tables m sound (record { axioms = axioms; invariants = kept; caught = caught }))

  -- valid starts and steps keep the invariants, in structures as functions too
  pub are_kept : All (IsValid q) (starts_from 0 q.parts.invariants) → All (IsValid q) (steps_from q.parts.invariants 0 q.parts.actions) → AreKept q
  are_kept starts steps = record { start = starts_kept starts; step = steps_kept steps }

  -- the same of a list of all starts and steps
  pub kept_where_inductive : All (IsValid q) (starts_from 0 q.parts.invariants ++ steps_from q.parts.invariants 0 q.parts.actions) → AreKept q
  kept_where_inductive valid = are_kept (all_left (IsValid q) (starts_from 0 q.parts.invariants) _ valid) (all_right (IsValid q) (starts_from 0 q.parts.invariants) _ valid)

  -- where all obligations are valid, the invariants are kept and nothing is caught
  pub kept_where_valid : All (IsValid q) (starts_from 0 q.parts.invariants ++ (steps_from q.parts.invariants 0 q.parts.actions ++ W.Catch ∷ [])) → AreKept q × NoneCaught q
  kept_where_valid valid =
      let rest = all_right (IsValid q) (starts_from 0 q.parts.invariants) _ valid in (
        are_kept (all_left (IsValid q) (starts_from 0 q.parts.invariants) _ valid) (all_left (IsValid q) (steps_from q.parts.invariants 0 q.parts.actions) _ rest),
        none_caught (All-head (IsValid q) W.Catch [] (all_right (IsValid q) (steps_from q.parts.invariants 0 q.parts.actions) _ rest)),
      )
