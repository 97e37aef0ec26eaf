-- What the steps of a lasso say of its run.
use Rattle.std.proofs.Common.{◌≡◌, ℕ, zero, suc, ◌<◌, ◌≤◌, true, false, List, [], ◌∷◌, ◌++◌, length, get_or, Some, None, refl, sym, ap, subst, ◌∙◌, arith}
use Rattle.std.proofs.lemmas.Bool.{and_parts, and_from, false≢true}
use Rattle.std.proofs.lemmas.List.{get_or-map, length-append}
use Rattle.lv_formula.specs.declared.symbols.SortId.{SortId}
use Rattle.lv_formula.specs.declared.symbols.Sym.{Sym}
use Rattle.lv_formula.specs.declared.symbols.Sym.TheVariants.{Own, Witness, Label, Frozen, Saved, Touched, Kept, Due, Copy, CopyLabel, Next, Param}
use Rattle.lv_formula.specs.Meaning.{IsStructureOf, Meaning}
use Rattle.lv_struct.specs.Tables.{IsSound, meaning, size_in}
use Rattle.lv_formula.proofs.MeaningLaws.{same_meaning}
use Rattle.lv_struct.proofs.MeaningLaws.{structure_of}
use Rattle.lv_formula.specs.Truth.{all_true_in}
use Rattle.lv_system.specs.declared.parts.Parts.{Parts}
use Rattle.lv_system.specs.declared.parts.Action.{Action}
use Rattle.lv_system.specs.Fits.{fits_parts}
use Rattle.lv_system.specs.Step.{IsAllowed, IsPerformed, action_at, performed}
use Rattle.lv_system.specs.Lasso.{IsLassoRun, Stop, no_stop, stop_at}
use Rattle.lv_system.specs.TemporalTruth.{end_of}
use Rattle.lv_system.specs.Vocabularies.{own_vocabulary}
use Rattle.lv_labels.proofs.Later.{next_cases}
use Rattle.lv_exec.proofs.PerformLaw.{updates_of_action}
use Rattle.lv_replay.specs.declared.lasso.Lasso.{Lasso}
use Rattle.lv_replay.specs.declared.lasso.StepTaken.{StepTaken}
use Rattle.lv_replay.specs.Answers.{AreAllowed, IsAllowedAt, IsClosed, IsFirstRefused}
use Rattle.lv_replay.specs.Fits.{LassoFits, step_fits, steps_fit}
use Rattle.lv_replay.specs.Play.{first_refused}
use Rattle.lv_replay.specs.Run.{Begins, reached, run_of, states_of, stops_of, taken}
use Rattle.lv_replay.proofs.RunLaw.{Refused, all_guarded, first_is_refused, fits_at, guard_at, kept_holds, kept_value, last_state, length_states, length_stops, next_state, part_state, states_are, stop, stop_state, stops_append, through}
use Rattle.lv_replay.proofs.StateLaw.{performed_is, performed_is_structure}

steps_fit_append : (p : Parts) (size : SortId → ℕ) (ss ts : List StepTaken) → steps_fit p size ss ≡ true → steps_fit p size ts ≡ true → steps_fit p size (ss ++ ts) ≡ true
steps_fit_append p size [] ts a b = b
steps_fit_append p size (s ∷ ss) ts a b = let both = and_parts (step_fits p size s) (steps_fit p size ss) a in
    and_from (step_fits p size s) (steps_fit p size (ss ++ ts)) both.0 (steps_fit_append p size ss ts both.1 b)

structure_at : (p : Parts) → fits_parts p ≡ true → (m : Meaning) (ss : List StepTaken) → steps_fit p m.size ss ≡ true → IsStructureOf (own_vocabulary p) m → (i : ℕ) → i < length ss
    → IsStructureOf (own_vocabulary p) (stop p m ss i).state
structure_at p fits m [] fit structure i lt = absurd (omega (arith, lt))
structure_at p fits m (s ∷ ss) fit structure zero lt = structure
structure_at p fits m (s ∷ ss) fit structure (suc i) lt =
    let here = fits_at p m (s ∷ ss) fit 0 (omega arith) in
    structure_at p fits (taken p m s) ss (and_parts (step_fits p m.size s) (steps_fit p m.size ss) fit).1
    (performed_is_structure p (action_at p s.action) s.elements m (updates_of_action p s.action fits here.action) here.elements structure) i (omega (arith, lt))

module _ (p : Parts) (l : Lasso) (fit : LassoFits p l) where
  abbrev pub start : Meaning
  start = meaning l.start

  abbrev pub steps : List StepTaken
  steps = l.stem ++ l.turn

  stops_are : stops_of p start l.stem ++ stops_of p (reached p start l.stem) l.turn ≡ stops_of p start steps
  stops_are = sym (stops_append p start l.stem l.turn)

  pub stop_is : (i : ℕ) → stop_at (stops_of p start l.stem) (stops_of p (reached p start l.stem) l.turn) i ≡ stop p start steps i
  stop_is i = ap (λ xs. get_or xs i no_stop) stops_are

  pub end_is : suc (end_of (run_of p l)) ≡ length steps
  end_is = let a = length_stops p start l.stem in let b = length_stops p (reached p start l.stem) l.turn in let c = length-append l.stem l.turn in let d = fit.loops in omega (arith, a, b, c, d)

  pub stem_is : (run_of p l).stem ≡ length l.stem
  stem_is = length_stops p start l.stem

  pub steps_are_fit : steps_fit p (size_in l.start) steps ≡ true
  steps_are_fit = steps_fit_append p (size_in l.start) l.stem l.turn fit.stem fit.turn

  abbrev IsAllowedStop : Stop → Type 0
  IsAllowedStop s = IsAllowed (action_at p s.action) s.elements s.state

  allowed_from : (i : ℕ) → i < length steps → guard_at p (stop p start steps i) ≡ true → IsAllowedAt p (run_of p l) i
  allowed_from i lt h = subst IsAllowedStop (sym (stop_is i)) (record { in_sorts = (fits_at p start steps steps_are_fit i lt).elements; guard = h })

  not_allowed : (i : ℕ) → guard_at p (stop p start steps i) ≡ false → IsAllowedAt p (run_of p l) i → ⊥
  not_allowed i h a = false≢true (sym h ∙ (subst IsAllowedStop (stop_is i) a).guard)

  pub refused : (k : ℕ) → first_refused p start 0 steps ≡ Some k → IsFirstRefused p (run_of p l) k
  refused k h = by (first_is_refused p start 0 steps k h)
    where
      by : Refused p start 0 steps k → IsFirstRefused p (run_of p l) k
      by r = subst (IsFirstRefused p (run_of p l)) (let e = r.is in let same : r.at ≡ k = omega (arith, e) in same) (record {
        there = let a = end_is in let b = r.there in omega (arith, a, b);
        earlier = λ i lt. allowed_from i (let b = r.there in omega (arith, lt, b)) (r.earlier i lt);
        refused = not_allowed r.at r.refused;
      })

  pub allowed : first_refused p start 0 steps ≡ None → AreAllowed p (run_of p l)
  allowed h i b = let lt : i < length steps = let a = end_is in omega (arith, a, b) in allowed_from i lt (all_guarded p start 0 steps h i lt)

  -- where the loop begins, and where it ends
  abbrev pub first : Meaning
  first = reached p start l.stem

  abbrev pub last : Meaning
  last = reached p start steps

  abbrev end_stop : Stop
  end_stop = stop p start steps (end_of (run_of p l))

  first_is : (run_of p l).state (run_of p l).stem ≡ first
  first_is = ap (λ s. s.state) (stop_is (run_of p l).stem)
      ∙ (ap (λ i. (stop p start steps i).state) stem_is
      ∙ (stop_state p start steps start (length l.stem) (let c = length-append l.stem l.turn in let d = fit.loops in omega (arith, c, d))
      ∙ part_state p start l.stem l.turn start))

  last_is : last ≡ performed p (action_at p end_stop.action) end_stop.elements end_stop.state
  last_is = sym (last_state p start steps start)
      ∙ (ap (λ i. get_or (through p start steps) i start) (sym end_is)
      ∙ next_state p start steps start (end_of (run_of p l)) (let a = end_is in omega (arith, a)))

  abbrev LeadsTo : Meaning → Stop → Type 0
  LeadsTo next s = IsPerformed p (action_at p s.action) s.elements s.state next

  pub closed : first ≡ last → IsClosed p (run_of p l)
  closed e = subst (LeadsTo ((run_of p l).state (run_of p l).stem)) (sym (stop_is (end_of (run_of p l))))
      (performed_is p (action_at p end_stop.action) end_stop.elements end_stop.state ((run_of p l).state (run_of p l).stem) (first_is ∙ (e ∙ last_is)))

  pub same_ends : IsClosed p (run_of p l) → first ≡ last
  same_ends c = same_meaning first last sizes holds values
    where
      it : LeadsTo first end_stop
      it = subst (λ m. LeadsTo m end_stop) first_is (subst (LeadsTo ((run_of p l).state (run_of p l).stem)) (stop_is (end_of (run_of p l))) c)

      sizes : (s : SortId) → first.size s ≡ last.size s
      sizes s = it.sizes s ∙ sym (ap (λ m. m.size s) last_is)

      stays : (s : Sym) (tuple : List ℕ) → ((a : Action) (es : List ℕ) (n : Meaning) → (performed p a es n).holds s tuple ≡ n.holds s tuple) → first.holds s tuple ≡ last.holds s tuple
      stays s tuple h = kept_holds p s tuple h start l.stem ∙ sym (kept_holds p s tuple h start steps)

      rests : (s : Sym) → ((a : Action) (es : List ℕ) (n : Meaning) → (performed p a es n).value s ≡ n.value s) → first.value s ≡ last.value s
      rests s h = kept_value p s h start l.stem ∙ sym (kept_value p s h start steps)

      holds : (s : Sym) (tuple : List ℕ) → first.holds s tuple ≡ last.holds s tuple
      holds (Own r) tuple = it.relations r tuple ∙ sym (ap (λ m. m.holds (Own r) tuple) last_is)
      holds (Witness n) tuple = stays (Witness n) tuple (λ a es m. refl)
      holds (Label n) tuple = stays (Label n) tuple (λ a es m. refl)
      holds Frozen tuple = stays Frozen tuple (λ a es m. refl)
      holds Saved tuple = stays Saved tuple (λ a es m. refl)
      holds (Touched n) tuple = stays (Touched n) tuple (λ a es m. refl)
      holds (Kept n) tuple = stays (Kept n) tuple (λ a es m. refl)
      holds (Due n) tuple = stays (Due n) tuple (λ a es m. refl)
      holds (Copy n) tuple = stays (Copy n) tuple (λ a es m. refl)
      holds (CopyLabel n) tuple = stays (CopyLabel n) tuple (λ a es m. refl)
      holds (Next n) tuple = stays (Next n) tuple (λ a es m. refl)
      holds (Param n) tuple = stays (Param n) tuple (λ a es m. refl)

      values : (s : Sym) → first.value s ≡ last.value s
      values (Own c) = it.constants c ∙ sym (ap (λ m. m.value (Own c)) last_is)
      values (Witness n) = rests (Witness n) (λ a es m. refl)
      values (Label n) = rests (Label n) (λ a es m. refl)
      values Frozen = rests Frozen (λ a es m. refl)
      values Saved = rests Saved (λ a es m. refl)
      values (Touched n) = rests (Touched n) (λ a es m. refl)
      values (Kept n) = rests (Kept n) (λ a es m. refl)
      values (Due n) = rests (Due n) (λ a es m. refl)
      values (Copy n) = rests (Copy n) (λ a es m. refl)
      values (CopyLabel n) = rests (CopyLabel n) (λ a es m. refl)
      values (Next n) = rests (Next n) (λ a es m. refl)
      values (Param n) = rests (Param n) (λ a es m. refl)

  -- the states of the run, in a list
  pub count_states : length (states_of p start steps) ≡ suc (end_of (run_of p l))
  count_states = length_states p start steps ∙ sym end_is

  abbrev state : Stop → Meaning
  state s = s.state

  pub state_is : (i : ℕ) → i ≤ end_of (run_of p l) → (run_of p l).state i ≡ get_or (states_of p start steps) i no_stop.state
  state_is i b = ap state (stop_is i)
      ∙ (sym (get_or-map state (stops_of p start steps) i no_stop no_stop.state (let a = end_is in let c = length_stops p start steps in omega (arith, a, b, c)))
      ∙ ap (λ xs. get_or xs i no_stop.state) (states_are p start steps))

  pub size_is : (i : ℕ) → i ≤ end_of (run_of p l) → ((run_of p l).state i).size ≡ start.size
  size_is i b = ap (λ s. s.state.size) (stop_is i) ∙ (fits_at p start steps steps_are_fit i (let a = end_is in omega (arith, a, b))).sizes

  begin_is : (run_of p l).state 0 ≡ start
  begin_is = ap state (stop_is 0) ∙ (stop_state p start steps start 0 (let c = length-append l.stem l.turn in let d = fit.loops in omega (arith, c, d)) ∙ begins l.stem l.turn)
    where
      begins : (ss ts : List StepTaken) → get_or (through p start (ss ++ ts)) 0 start ≡ start
      begins [] [] = refl
      begins [] (t ∷ ts) = refl
      begins (s ∷ ss) ts = refl

  -- the run that the steps lead through is one of the system
  pub lasso_run : fits_parts p ≡ true → IsSound l.start → Begins p start → first_refused p start 0 steps ≡ None → first ≡ last → IsLassoRun p (run_of p l)
  lasso_run fits sound begins guarded meets = record {
    structures = λ i b. subst (λ s. IsStructureOf (own_vocabulary p) s.state) (sym (stop_is i))
        (structure_at p fits start steps steps_are_fit (structure_of (own_vocabulary p) l.start sound fit.vocabulary) i (let a = end_is in omega (arith, a, b)));
    axioms = ap (λ m. all_true_in m p.axioms []) begin_is ∙ begins.axioms;
    inits = ap (λ m. all_true_in m p.inits []) begin_is ∙ begins.inits;
    actions = λ i b. subst (λ s. s.action < length p.actions) (sym (stop_is i)) (fits_at p start steps steps_are_fit i (let a = end_is in omega (arith, a, b))).action;
    allowed = allowed guarded;
    steps = λ i b. next_cases (run_of p l) i (λ j. IsPerformed p (action_at p ((run_of p l).action i)) ((run_of p l).elements i) ((run_of p l).state i) ((run_of p l).state j))
        (λ e. subst (λ j. IsPerformed p (action_at p ((run_of p l).action j)) ((run_of p l).elements j) ((run_of p l).state j) ((run_of p l).state (run_of p l).stem)) (sym e) (closed meets))
        (λ e. subst (λ s. LeadsTo ((run_of p l).state (suc i)) s) (sym (stop_is i)) (performed_is p (action_at p (stop p start steps i).action) (stop p start steps i).elements (stop p start steps i).state ((run_of p l).state (suc i)) (going i b e)));
  }
    where
      going : (i : ℕ) → i ≤ end_of (run_of p l) → (i ≡ end_of (run_of p l) → ⊥) → (run_of p l).state (suc i) ≡ performed p (action_at p (stop p start steps i).action) (stop p start steps i).elements (stop p start steps i).state
      going i b e = let a = end_is in ap state (stop_is (suc i))
          ∙ (stop_state p start steps start (suc i) (omega (arith, a, b, e)) ∙ next_state p start steps start i (omega (arith, a, b)))
