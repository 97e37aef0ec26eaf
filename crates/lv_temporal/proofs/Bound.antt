-- After a freeze no two ends of rounds look the same on what was touched, so there are few rounds.
use Rattle.std.proofs.Common.{◌≡◌, ℕ, suc, ◌<◌, ◌≤◌, Bool, true, false, ◌&&◌, ◌||◌, eqb, cond, refl, sym, ap, ◌∙◌, List, [], ◌∷◌, map, length, reverse, Some, None, arith, eqb-true, eq-eqb, ne_eqb, inl, inr, le_of_lt, le_trans, lt-ltb, ltb-true, subst}
use Rattle.std.proofs.lemmas.Bool.{and_parts, cases_eq, false≢true, or_cases}
use Rattle.std.specs.List.{AllByRecursion, IsDistinct, list_any}
use Rattle.std.proofs.lemmas.List.{length-map}
use Rattle.std.proofs.lemmas.Map.Steps.{length-le_from_distinct_below}
use Rattle.lv_formula.specs.declared.symbols.SortId.{SortId}
use Rattle.lv_formula.specs.declared.symbols.Sym.TheVariants.{Own, Witness, Copy}
use Rattle.lv_formula.specs.Meaning.{is_element}
use Rattle.lv_formula.specs.Tuples.{over}
use Rattle.lv_formula.specs.Truth.{any_below, truth_in}
use Rattle.lv_formula.proofs.Below.{any_below-holds}
use Rattle.lv_formula.proofs.Readings.{any_below-some}
use Rattle.lv_system.specs.declared.parts.Parts.{Parts}
use Rattle.lv_system.specs.Step.{action_at}
use Rattle.lv_labels.specs.Positions.{Bounded, run_of}
use Rattle.lv_labels.specs.Problem.{Problem, choice_at, justice_at, label_at, problem_of}
use Rattle.lv_labels.specs.Runs.{IsLabelledRun, Run, is_constant_value, is_denoted, is_finite, is_passed, is_witness_value, touched}
use Rattle.lv_labels.specs.Rounds.{AreRounds, IsBounded, IsRound, valuations}
use Rattle.lv_labels.proofs.Ranges.{over_same}
use Rattle.lv_labels.proofs.Sameness.{sort_true}
use Rattle.lv_temporal.proofs.Touched.{passed_in}
use Rattle.lv_labels.specs.declared.moves.Move.{Move}
use Rattle.lv_labels.specs.declared.moves.Move.TheVariants.{Stay, Freeze, Save}
use Rattle.lv_labels.specs.Monitor.{LooksSaved, MayMove, is_freeze, is_kept, is_save, shown}
use Rattle.lv_temporal.specs.Projections.{LooksLike, RunsAreWithin}
use Rattle.lv_temporal.specs.Walk.{IsWalk, Walks, moves}
use Rattle.lv_temporal.proofs.Basics.{any_below-none}
use Rattle.lv_temporal.proofs.Codes.{projection, projection_below, projection_same}
use Rattle.lv_temporal.proofs.ClosedFits.{IsFit}
use Rattle.lv_temporal.proofs.SameWords.{own_constant_in_range}
use Rattle.lv_temporal.proofs.Sense.{AreKept, NoneCaught}
use Rattle.lv_temporal.proofs.Walk.{axioms_at, constant_value_in_range, copied_constant, copied_label, copied_relation, due_first, due_since, fixed_along, frozen_at, invariants_at, kept_at, monitored_at, none_due_first, none_due_since, saved_at, state_at, touched_at, walk, walk_opened, walk_steps}

moves_first : (f s : ℕ) → moves f s f ≡ Freeze
moves_first f s = rw (eq-eqb f f refl) refl

moves_second : (f s : ℕ) → f < s → moves f s s ≡ Save
moves_second f s l = rw (ne_eqb s f (λ e. omega (arith, e)), eq-eqb s s refl) refl

moves_else : (f s i : ℕ) → (i ≡ f → ⊥) → (i ≡ s → ⊥) → moves f s i ≡ Stay
moves_else f s i a b = rw (ne_eqb i f a, ne_eqb i s b) refl

not_freeze : (b : Bool) → is_freeze (cond b Save Stay) ≡ false
not_freeze true = refl
not_freeze false = refl

not_save : (b : Bool) → is_save (cond b Freeze Stay) ≡ false
not_save true = refl
not_save false = refl

freeze_else : (f s i : ℕ) → (i ≡ f → ⊥) → is_freeze (moves f s i) ≡ false
freeze_else f s i a = rw (ne_eqb i f a) (not_freeze (eqb i s))

save_else : (f s i : ℕ) → (i ≡ s → ⊥) → is_save (moves f s i) ≡ false
save_else f s i a = rw (ne_eqb i s a) (not_save (eqb i f))

abbrev is_move : Move → Bool
is_move m = is_freeze m || is_save m

module _ (q : Problem) (r : Run) (fit : IsFit q) (run : IsLabelledRun q r) where
  abbrev still : ℕ → Move
  still i = Stay

  -- sorts keep their size along a run
  pub size_along : (i : ℕ) → i ≤ r.last → (s : SortId) → (r.at i).size s ≡ (r.at 0).size s
  size_along i l s = sym ((fixed_along q r fit run still i l).sizes s)

  witness_in_range : (i : ℕ) → i ≤ r.last → (s : SortId) (x : ℕ) → is_witness_value q (r.at i) s x ≡ true → is_element (r.at i) s x ≡ true
  witness_in_range i l s x h =
      let w = any_below-some (length q.choices) (λ k. eqb (choice_at q k).sort.0 s.0 && eqb ((r.at i).value (Witness k)) x) h in
      let b = and_parts (eqb (choice_at q w.0).sort.0 s.0) (eqb ((r.at i).value (Witness w.0)) x) w.2 in
      subst (λ y. is_element (r.at i) s y ≡ true) (eqb-true ((r.at i).value (Witness w.0)) x b.1)
      (subst (λ t. is_element (r.at i) t ((r.at i).value (Witness w.0)) ≡ true) (sort_true (choice_at q w.0).sort s b.0)
      (lt-ltb ((r.at i).value (Witness w.0)) ((r.at i).size (choice_at q w.0).sort) ((run.structures i l).constants (Witness w.0) (choice_at q w.0).sort (fit.witnesses w.0 w.1))))

  denoted_in_range : (i : ℕ) → i ≤ r.last → (s : SortId) (x : ℕ) → is_denoted q (r.at i) s x ≡ true → is_element (r.at 0) s x ≡ true
  denoted_in_range i l s x h = rw (← size_along i l s) (elim (or_cases (is_constant_value q.parts (λ c. (r.at i).value (Own c)) s x) (is_witness_value q (r.at i) s x) h) [
    | inl a ↦ constant_value_in_range q (r.at i) (run.structures i l) s x a
    | inr a ↦ witness_in_range i l s x a
  ])

  -- what is touched is an element of its sort
  pub touched_in_range : (i : ℕ) → i ≤ r.last → (s : SortId) (x : ℕ) → touched q r i s x ≡ true → is_element (r.at 0) s x ≡ true
  touched_in_range i l s x h = by_value (is_finite q.parts s) h
    where
      named : (k : ℕ) × (k < suc i) × (is_denoted q (r.at k) s x ≡ true) → is_element (r.at 0) s x ≡ true
      named w = denoted_in_range w.0 (omega (arith, w.1)) s x w.2

      taken : (k : ℕ) × (k < i) × (is_passed (action_at q.parts (r.action k)).params (r.elements k) s x ≡ true) → is_element (r.at 0) s x ≡ true
      taken w = let m : w.0 < r.last = omega (arith, w.1) in
          rw (← size_along w.0 (le_of_lt m) s) (passed_in (r.at w.0) (action_at q.parts (r.action w.0)).params (r.elements w.0) s x (run.allowed w.0 m).in_sorts w.2)

      by_value : (b : Bool) → cond b (is_element (r.at 0) s x) (any_below (suc i) (λ k. is_denoted q (r.at k) s x) || any_below i (λ k. is_passed (action_at q.parts (r.action k)).params (r.elements k) s x)) ≡ true → is_element (r.at 0) s x ≡ true
      by_value true h = h
      by_value false h = elim (or_cases (any_below (suc i) (λ k. is_denoted q (r.at k) s x)) (any_below i (λ k. is_passed (action_at q.parts (r.action k)).params (r.elements k) s x)) h) [
        | inl a ↦ named (any_below-some (suc i) (λ k. is_denoted q (r.at k) s x) a)
        | inr a ↦ taken (any_below-some i (λ k. is_passed (action_at q.parts (r.action k)).params (r.elements k) s x) a)
      ]

  -- a round that goes on is a round
  pub round_longer : (i j k : ℕ) → j ≤ k → IsRound q r i j → IsRound q r i k
  round_longer i j k l h c b tuple o = longer (h c b tuple o)
    where
      longer : (x : ℕ) × (i ≤ x) × (x < j) × (truth_in (r.at x) (justice_at q c).body (reverse tuple) ≡ true) → (x : ℕ) × (i ≤ x) × (x < k) × (truth_in (r.at x) (justice_at q c).body (reverse tuple) ≡ true)
      longer w = (w.0, w.1, le_trans w.2 l, w.3)

  module _ (f s : ℕ) (fs : f < s) (first : f ≤ r.last → IsRound q r 0 f) (second : s ≤ r.last → IsRound q r f s) where
    abbrev mv : ℕ → Move
    mv = moves f s

    stays : (i : ℕ) → (i ≡ f → ⊥) → (i ≡ s → ⊥) → is_move (mv i) ≡ false
    stays i a b = ap is_move (moves_else f s i a b)

    may_freeze : f ≤ r.last → MayMove q Freeze (walk q r mv f)
    may_freeze l = (
      frozen_at q r fit run mv f ∙ any_below-none f (λ k. is_freeze (mv k)) (λ k n. freeze_else f s k (λ e. omega (arith, e))),
      saved_at q r fit run mv f ∙ any_below-none f (λ k. is_save (mv k)) (λ k n. save_else f s k (λ e. omega (arith, e))),
      none_due_first q r fit run mv f l (λ k n. stays k (λ e. omega (arith, e)) (λ e. omega (arith, e))) (first l),
    )

    may_save : s ≤ r.last → MayMove q Save (walk q r mv s)
    may_save l = (
      frozen_at q r fit run mv s ∙ any_below-holds s (λ k. is_freeze (mv k)) f fs (ap is_freeze (moves_first f s)),
      saved_at q r fit run mv s ∙ any_below-none s (λ k. is_save (mv k)) (λ k l. save_else f s k (λ e. omega (arith, e))),
      none_due_since q r fit run mv f s fs l (ap is_move (moves_first f s)) (λ k m n. stays k (λ e. omega (arith, e)) (λ e. omega (arith, e))) (second l),
    )

    -- each move of the walk is allowed
    pub may : (i : ℕ) → i < r.last → MayMove q (mv i) (walk q r mv i)
    may i l = elim (cases_eq i f) [
      | inl a ↦ rw (a, moves_first f s) (may_freeze (omega (arith, l, a)))
      | inr a ↦ elim (cases_eq i s) [
        | inl b ↦ rw (b, moves_second f s fs) (may_save (omega (arith, l, b)))
        | inr b ↦ rw (moves_else f s i a b) tt
      ]
    ]

    pub is_walk : AreKept q → IsWalk q r f s (walk q r (moves f s))
    is_walk kept = record {
      opened = walk_opened q r mv;
      steps = λ i l. walk_steps q r mv i;
      allowed = may;
      states = state_at q r fit run mv;
      touches = touched_at q r fit run mv;
      due_opened = λ i l m j b tuple. due_first q r fit run mv i m (λ k n. stays k (λ e. omega (arith, e)) (λ e. omega (arith, e))) j b tuple;
      due_frozen = λ i l il m j b tuple. due_since q r fit run mv f i l m (ap is_move (moves_first f s)) (λ k n o. stays k (λ e. omega (arith, e)) (λ e. omega (arith, e, il))) j b tuple;
      due_saved = λ i l m j b tuple. due_since q r fit run mv s i l m (ap is_move (moves_second f s fs)) (λ k n o. stays k (λ e. omega (arith, e)) (λ e. omega (arith, e))) j b tuple;
      none_due = λ i l m round. none_due_since q r fit run mv s i l m (ap is_move (moves_second f s fs)) (λ k n o. stays k (λ e. omega (arith, e)) (λ e. omega (arith, e))) round;
      kept = λ i l m sort x. kept_at q r fit run mv f i l m (ap is_freeze (moves_first f s)) (λ k n o. freeze_else f s k (λ a. omega (arith, a))) sort x;
      invariants = invariants_at q r fit run mv kept may;
    }

  module _ (kept : AreKept q) (none : NoneCaught q) (f s e : ℕ) (fs : f < s) (se : s < e) (el : e ≤ r.last) (first : IsRound q r 0 f) (second : IsRound q r f s) (third : IsRound q r s e) where
    abbrev mw : ℕ → Move
    mw = moves f s

    kept_is : (sort : SortId) (x : ℕ) → is_kept (walk q r mw e) sort x ≡ touched q r f sort x
    kept_is sort x = kept_at q r fit run mw f e (omega arith) el (ap is_freeze (moves_first f s)) (λ k l n. freeze_else f s k (λ a. omega (arith, a))) sort x

    kept_over : (sorts : List SortId) (tuple : List ℕ) → over (is_kept (walk q r mw e)) sorts tuple ≡ true → over (touched q r f) sorts tuple ≡ true
    kept_over sorts tuple o = sym (over_same (is_kept (walk q r mw e)) (touched q r f) kept_is sorts tuple) ∙ o

    saves : (k : ℕ) → s < k → k < e → is_save (mw k) ≡ false
    saves k l n = save_else f s k (λ a. omega (arith, a))

    shown_kept : (sort : SortId) (x y : ℕ) → x ≡ y → shown (is_kept (walk q r mw e) sort) x ≡ shown (touched q r f sort) y
    shown_kept sort x y k = rw k (ap (λ b. cond b (Some y) None) (kept_is sort y))

    looks_saved : LooksLike q (touched q r f) (r.at s) (r.at e) → LooksSaved q (walk q r mw e)
    looks_saved h = record {
      relations = λ x sorts l u k tuple o. (state_at q r fit run mw e el).relations x tuple
          ∙ (sym (h.relations x sorts l u k tuple (kept_over sorts tuple o)) ∙ sym (copied_relation q r fit run mw s e se el (ap is_save (moves_second f s fs)) saves x tuple));
      labels = λ x l tuple o. (state_at q r fit run mw e el).labels x tuple
          ∙ (sym (h.labels x l tuple (kept_over (label_at q x).sorts tuple o)) ∙ sym (copied_label q r fit run mw s e se el (ap is_save (moves_second f s fs)) saves x tuple));
      constants = λ c sort l u k. shown_kept sort ((walk q r mw e).value (Own c)) ((r.at e).value (Own c)) ((state_at q r fit run mw e el).constants c)
          ∙ (sym (h.constants c sort l u k) ∙ sym (shown_kept sort ((walk q r mw e).value (Copy c)) ((r.at s).value (Own c)) (copied_constant q r fit run mw s e se el (ap is_save (moves_second f s fs)) saves c)));
    }

    -- the ends of two rounds after a freeze do not look the same on what was touched
    pub differ : LooksLike q (touched q r f) (r.at s) (r.at e) → ⊥
    differ h = none (walk q r mw e) (monitored_at q r fit run mw e el) (axioms_at q r fit run mw e el) (invariants_at q r fit run mw kept (may f s fs (λ l. first) (λ l. second)) e el) (record {
      saved = saved_at q r fit run mw e ∙ any_below-holds e (λ k. is_save (mw k)) s se (ap is_save (moves_second f s fs));
      none_due = none_due_since q r fit run mw s e se el (ap is_move (moves_second f s fs)) (λ k l n. ap is_move (moves_else f s k (λ a. omega (arith, a)) (λ a. omega (arith, a)))) third;
      returned = looks_saved h;
    })

-- what is touched and what constants are is in the range of the run's sorts
pub runs_within : (q : Problem) → IsFit q → RunsAreWithin q
runs_within q fit r run i l = (
  (λ s x h. ltb-true x ((r.at 0).size s) (touched_in_range q r fit run i l s x h)),
  (λ c s b k. rw (← size_along q r fit run i l s) (own_constant_in_range q (r.at i) (run.structures i l) c s b k)),
)

-- the ends of the rounds after a freeze
module _ (q : Problem) (r : Run) (fit : IsFit q) (run : IsLabelledRun q r) (kept : AreKept q) (none : NoneCaught q) (f : ℕ) (fl : f ≤ r.last) (first : IsRound q r 0 f) where
  abbrev num : ℕ → ℕ
  num e = projection q (touched q r f) (r.at 0).size (r.at e)

  abbrev Ends : ℕ → ℕ → Type 0
  Ends s e = (s < e) × (e ≤ r.last) × IsRound q r s e

  num_below : (e : ℕ) → e ≤ r.last → num e < valuations q (touched q r f) (r.at 0).size
  num_below e l = projection_below q (touched q r f) (r.at 0).size (r.at e) (runs_within q fit r run e l).1

  num_apart : (s e : ℕ) → Ends f s → Ends s e → eqb (num s) (num e) ≡ false
  num_apart s e a b = ne_eqb (num s) (num e) (λ h. differ q r fit run kept none f s e a.0 b.0 b.1 first a.2 b.2
      (projection_same q (touched q r f) (r.at 0).size (runs_within q fit r run f fl).0 (r.at s) (r.at e) (runs_within q fit r run s a.1).1 (runs_within q fit r run e b.1).1 h))

  ends_after : (s j : ℕ) (ends : List ℕ) → s < j → IsRound q r s j → AreRounds q r j ends → AllByRecursion (Ends s) ends
  ends_after s j [] l h a = tt
  ends_after s j (e ∷ es) l h a = ((omega (arith, a.0), a.1, round_longer q r fit run s j e (le_of_lt a.0) h), ends_after s e es (omega (arith, a.0)) (round_longer q r fit run s j e (le_of_lt a.0) h) a.3)

  ends_from : (s : ℕ) (ends : List ℕ) → AreRounds q r s ends → AllByRecursion (Ends s) ends
  ends_from s [] a = tt
  ends_from s (e ∷ es) a = ((a.0, a.1, a.2), ends_after s e es a.0 a.2 a.3)

  apart : (s : ℕ) → Ends f s → (es : List ℕ) → AllByRecursion (Ends s) es → AllByRecursion (λ y. eqb (num s) y ≡ false) (map num es)
  apart s h [] a = tt
  apart s h (e ∷ es) a = (num_apart s e h a.0, apart s h es a.1)

  distinct : (j : ℕ) (ends : List ℕ) → AreRounds q r j ends → AllByRecursion (Ends f) ends → IsDistinct eqb (map num ends)
  unfolding IsDistinct
  distinct j [] a h = tt
  distinct j (e ∷ es) a h = (apart e h.0 es (ends_from e es a.3), distinct e es a.3 h.1)

  each_below : (ends : List ℕ) → AllByRecursion (Ends f) ends → (v : ℕ) → list_any (eqb v) (map num ends) ≡ true → v < valuations q (touched q r f) (r.at 0).size
  each_below [] h v k = absurd (false≢true k)
  each_below (e ∷ es) h v k = elim (or_cases (eqb v (num e)) (list_any (eqb v) (map num es)) k) [
    | inl m ↦ rw (eqb-true v (num e) m) (num_below e h.0.1)
    | inr m ↦ each_below es h.1 v m
  ]

  -- there are at most as many rounds as valuations
  pub few : (ends : List ℕ) → AreRounds q r f ends → length ends ≤ valuations q (touched q r f) (r.at 0).size
  few ends a = rw (length-map ends num) at (length-le_from_distinct_below (map num ends) (valuations q (touched q r f) (r.at 0).size) (distinct f ends a (ends_from f ends a)) (each_below ends (ends_from f ends a)))

-- where starts and steps are valid the monitor can walk along each labelled run
pub walks : (q : Problem) → IsFit q → AreKept q → Walks q
walks q fit kept r run f s fs first second = (walk q r (moves f s), is_walk q r fit run f s fs first second kept)

-- where moreover nothing is caught, each labelled run has few rounds after a freeze
pub bounded : (q : Problem) → IsFit q → AreKept q → NoneCaught q → (r : Run) → IsLabelledRun q r → IsBounded q r
bounded q fit kept none r run f ends a = few q r fit run kept none f a.1 a.2 ends a.3

-- the same of runs that are lists of positions
pub bounded_positions : (p : Parts) → IsFit (problem_of p) → AreKept (problem_of p) → NoneCaught (problem_of p) → Bounded p
bounded_positions p fit kept none witnesses positions some run = bounded (problem_of p) fit kept none (run_of witnesses positions) run
