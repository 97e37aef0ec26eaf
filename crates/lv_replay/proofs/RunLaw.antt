-- The run of a lasso, position by position.
use Rattle.std.proofs.Common.{◌≡◌, ℕ, zero, suc, ◌+◌, ◌<◌, Bool, true, false, ltb, List, [], ◌∷◌, ◌++◌, length, map, reverse, get_or, Some, None, refl, sym, ap, ◌∙◌, arith, cond}
use Rattle.std.proofs.lemmas.Bool.{cond-true, and_parts, ltb-true}
use Rattle.lv_formula.specs.declared.symbols.Sym.{Sym}
use Rattle.lv_system.specs.declared.parts.Action.{Action}
use Rattle.lv_formula.specs.Meaning.{Meaning, in_range}
use Rattle.lv_formula.specs.Truth.{truth_in}
use Rattle.lv_system.specs.declared.parts.Parts.{Parts}
use Rattle.lv_system.specs.Step.{action_at, performed}
use Rattle.lv_system.specs.Lasso.{Stop, no_stop}
use Rattle.lv_replay.specs.declared.lasso.StepTaken.{StepTaken}
use Rattle.lv_replay.specs.Fits.{step_fits, steps_fit}
use Rattle.lv_replay.specs.Play.{first_refused, is_guarded}
use Rattle.lv_replay.specs.Run.{reached, states_of, stops_of, taken}

module _ (p : Parts) where
  -- two parts of the steps
  pub stops_append : (m : Meaning) (ss ts : List StepTaken) → stops_of p m (ss ++ ts) ≡ stops_of p m ss ++ stops_of p (reached p m ss) ts
  stops_append m [] ts = refl
  stops_append m (s ∷ ss) ts = ap (λ xs. record { state = m; action = s.action; elements = s.elements } ∷ xs) (stops_append (taken p m s) ss ts)

  pub reached_append : (m : Meaning) (ss ts : List StepTaken) → reached p m (ss ++ ts) ≡ reached p (reached p m ss) ts
  reached_append m [] ts = refl
  reached_append m (s ∷ ss) ts = reached_append (taken p m s) ss ts

  pub states_append : (m : Meaning) (ss ts : List StepTaken) → states_of p m (ss ++ ts) ≡ states_of p m ss ++ states_of p (reached p m ss) ts
  states_append m [] ts = refl
  states_append m (s ∷ ss) ts = ap (λ xs. m ∷ xs) (states_append (taken p m s) ss ts)

  pub length_stops : (m : Meaning) (ss : List StepTaken) → length (stops_of p m ss) ≡ length ss
  length_stops m [] = refl
  length_stops m (s ∷ ss) = ap suc (length_stops (taken p m s) ss)

  pub length_states : (m : Meaning) (ss : List StepTaken) → length (states_of p m ss) ≡ length ss
  length_states m [] = refl
  length_states m (s ∷ ss) = ap suc (length_states (taken p m s) ss)

  abbrev pub state : Stop → Meaning
  state s = s.state

  pub states_are : (m : Meaning) (ss : List StepTaken) → map state (stops_of p m ss) ≡ states_of p m ss
  states_are m [] = refl
  states_are m (s ∷ ss) = ap (λ xs. m ∷ xs) (states_are (taken p m s) ss)

  pub refused_append : (m : Meaning) (n k : ℕ) (ss ts : List StepTaken) → k ≡ n + length ss → first_refused p m n ss ≡ None → first_refused p m n (ss ++ ts) ≡ first_refused p (reached p m ss) k ts
  refused_append m n k [] ts e h = ap (λ j. first_refused p m j ts) (omega (arith, e))
  refused_append m n k (s ∷ ss) ts e h = by (is_guarded p m s) refl h (refused_append (taken p m s) (suc n) k ss ts (omega (arith, e)))
    where
      by : (b : Bool) → is_guarded p m s ≡ b → cond b (first_refused p (taken p m s) (suc n) ss) (Some n) ≡ None
          → (first_refused p (taken p m s) (suc n) ss ≡ None → first_refused p (taken p m s) (suc n) (ss ++ ts) ≡ first_refused p (reached p (taken p m s) ss) k ts)
          → cond (is_guarded p m s) (first_refused p (taken p m s) (suc n) (ss ++ ts)) (Some n) ≡ first_refused p (reached p (taken p m s) ss) k ts
      by true is h rest = cond-true (is_guarded p m s) _ _ is ∙ rest h
      by false is h rest = cc

  abbrev pub stop : Meaning → List StepTaken → ℕ → Stop
  stop m ss i = get_or (stops_of p m ss) i no_stop

  -- the guard of the step at a stop
  abbrev pub guard_at : Stop → Bool
  guard_at s = truth_in s.state (action_at p s.action).guard (reverse s.elements)

  pub all_guarded : (m : Meaning) (n : ℕ) (ss : List StepTaken) → first_refused p m n ss ≡ None → (i : ℕ) → i < length ss → guard_at (stop m ss i) ≡ true
  all_guarded m n [] h i lt = absurd (omega (arith, lt))
  all_guarded m n (s ∷ ss) h i lt = by (is_guarded p m s) refl h (all_guarded (taken p m s) (suc n) ss) i lt
    where
      by : (b : Bool) → is_guarded p m s ≡ b → cond b (first_refused p (taken p m s) (suc n) ss) (Some n) ≡ None
          → (first_refused p (taken p m s) (suc n) ss ≡ None → (i : ℕ) → i < length ss → guard_at (stop (taken p m s) ss i) ≡ true)
          → (i : ℕ) → i < suc (length ss) → guard_at (stop m (s ∷ ss) i) ≡ true
      by true is h rest zero lt = is
      by true is h rest (suc i) lt = rest h i (omega (arith, lt))
      by false is h rest i lt = cc

  pub record Refused (m : Meaning) (n : ℕ) (ss : List StepTaken) (k : ℕ) : Type 0 where
    pub at : ℕ
    pub is : k ≡ n + at
    pub there : at < length ss
    pub earlier : (i : ℕ) → i < at → guard_at (stop m ss i) ≡ true
    pub refused : guard_at (stop m ss at) ≡ false

  pub first_is_refused : (m : Meaning) (n : ℕ) (ss : List StepTaken) (k : ℕ) → first_refused p m n ss ≡ Some k → Refused m n ss k
  first_is_refused m n [] k h = cc
  first_is_refused m n (s ∷ ss) k h = by (is_guarded p m s) refl h (first_is_refused (taken p m s) (suc n) ss k)
    where
      later : is_guarded p m s ≡ true → Refused (taken p m s) (suc n) ss k → Refused m n (s ∷ ss) k
      later is r = record { at = suc r.at; is = omega (arith, r.is); there = omega (arith, r.there); earlier = before; refused = r.refused }
        where
          before : (i : ℕ) → i < suc r.at → guard_at (stop m (s ∷ ss) i) ≡ true
          before zero lt = is
          before (suc i) lt = r.earlier i (omega (arith, lt))

      by : (b : Bool) → is_guarded p m s ≡ b → cond b (first_refused p (taken p m s) (suc n) ss) (Some n) ≡ Some k
          → (first_refused p (taken p m s) (suc n) ss ≡ Some k → Refused (taken p m s) (suc n) ss k) → Refused m n (s ∷ ss) k
      by true is h rest = later is (rest h)
      by false is h rest = record { at = 0; is = let e : n ≡ k = cc in omega (arith, e); there = omega arith; earlier = λ i lt. absurd (omega (arith, lt)); refused = is }

  pub record FitsAt (m : Meaning) (s : Stop) : Type 0 where
    pub action : s.action < length p.actions
    pub elements : in_range s.state (action_at p s.action).params s.elements ≡ true
    pub sizes : s.state.size ≡ m.size

  pub fits_at : (m : Meaning) (ss : List StepTaken) → steps_fit p m.size ss ≡ true → (i : ℕ) → i < length ss → FitsAt m (stop m ss i)
  fits_at m [] h i lt = absurd (omega (arith, lt))
  fits_at m (s ∷ ss) h zero lt = let first = and_parts (ltb s.action (length p.actions)) _ (and_parts (step_fits p m.size s) (steps_fit p m.size ss) h).0 in
      record { action = ltb-true _ _ first.0; elements = first.1; sizes = refl }
  fits_at m (s ∷ ss) h (suc i) lt = let r = fits_at (taken p m s) ss (and_parts (step_fits p m.size s) (steps_fit p m.size ss) h).1 i (omega (arith, lt)) in
      record { action = r.action; elements = r.elements; sizes = r.sizes }

  -- the structures in which steps are taken, and the one after the last
  abbrev pub through : Meaning → List StepTaken → List Meaning
  through m ss = states_of p m ss ++ reached p m ss ∷ []

  through_next : (m : Meaning) (ss : List StepTaken) (d : Meaning) → get_or (through m ss) 0 d ≡ m
  through_next m [] d = refl
  through_next m (s ∷ ss) d = refl

  pub next_state : (m : Meaning) (ss : List StepTaken) (d : Meaning) (i : ℕ) → i < length ss
      → get_or (through m ss) (suc i) d ≡ performed p (action_at p (stop m ss i).action) (stop m ss i).elements (stop m ss i).state
  next_state m [] d i lt = absurd (omega (arith, lt))
  next_state m (s ∷ ss) d zero lt = through_next (taken p m s) ss d
  next_state m (s ∷ ss) d (suc i) lt = next_state (taken p m s) ss d i (omega (arith, lt))

  pub stop_state : (m : Meaning) (ss : List StepTaken) (d : Meaning) (i : ℕ) → i < length ss → (stop m ss i).state ≡ get_or (through m ss) i d
  stop_state m [] d i lt = absurd (omega (arith, lt))
  stop_state m (s ∷ ss) d zero lt = refl
  stop_state m (s ∷ ss) d (suc i) lt = stop_state (taken p m s) ss d i (omega (arith, lt))

  pub last_state : (m : Meaning) (ss : List StepTaken) (d : Meaning) → get_or (through m ss) (length ss) d ≡ reached p m ss
  last_state m [] d = refl
  last_state m (s ∷ ss) d = last_state (taken p m s) ss d

  -- the structure after the first of the steps
  pub part_state : (m : Meaning) (ss ts : List StepTaken) (d : Meaning) → get_or (through m (ss ++ ts)) (length ss) d ≡ reached p m ss
  part_state m [] ts d = through_next m ts d
  part_state m (s ∷ ss) ts d = part_state (taken p m s) ss ts d

  -- what no action changes
  pub kept_holds : (sym : Sym) (tuple : List ℕ) → ((a : Action) (es : List ℕ) (n : Meaning) → (performed p a es n).holds sym tuple ≡ n.holds sym tuple)
      → (m : Meaning) (ss : List StepTaken) → (reached p m ss).holds sym tuple ≡ m.holds sym tuple
  kept_holds sym tuple stays m [] = refl
  kept_holds sym tuple stays m (s ∷ ss) = kept_holds sym tuple stays (taken p m s) ss ∙ stays (action_at p s.action) s.elements m

  pub kept_value : (sym : Sym) → ((a : Action) (es : List ℕ) (n : Meaning) → (performed p a es n).value sym ≡ n.value sym)
      → (m : Meaning) (ss : List StepTaken) → (reached p m ss).value sym ≡ m.value sym
  kept_value sym stays m [] = refl
  kept_value sym stays m (s ∷ ss) = kept_value sym stays (taken p m s) ss ∙ stays (action_at p s.action) s.elements m
