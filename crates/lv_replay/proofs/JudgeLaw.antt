-- What the states of a lasso's run say of its fairness and of the property.
use Rattle.std.proofs.Common.{◌≡◌, ℕ, zero, suc, ◌+◌, ◌-◌, ◌<◌, ◌≤◌, true, false, List, [], ◌∷◌, length, map, drop, reverse, get_or, Option, Some, None, refl, sym, ap, subst, ◌∙◌, arith, inl, inr}
use Rattle.std.proofs.lemmas.Bool.{and_parts, and_cases, or_cases, or_left, or_right, false≢true}
use Rattle.std.proofs.lemmas.List.{drop-map, get_or-drop, length-drop}
use Rattle.lv_formula.specs.declared.formula.Formula.{Formula}
use Rattle.lv_formula.specs.Meaning.{Meaning, in_range}
use Rattle.lv_struct.specs.Tables.{Tables, meaning, size_in}
use Rattle.lv_formula.specs.Tuples.{has_tuple, tuple_eq, tuples_over}
use Rattle.lv_struct.proofs.CompareLaws.{tuple_tells}
use Rattle.lv_struct.proofs.TupleLaws.{has_tuple-tuples_over}
use Rattle.lv_formula.specs.Truth.{truth_in}
use Rattle.lv_system.specs.declared.parts.Parts.{Parts}
use Rattle.lv_system.specs.declared.parts.Fair.{Fair}
use Rattle.lv_system.specs.Lasso.{IsFair, IsLassoRun, fair_at, no_fair, no_stop}
use Rattle.lv_system.specs.TemporalTruth.{end_of, holds}
use Rattle.lv_replay.specs.declared.lasso.Lasso.{Lasso}
use Rattle.lv_replay.specs.declared.answer.ReplayAnswer.TheVariants.{Unfair}
use Rattle.lv_replay.specs.Answers.{IsAnswer, IsFirstUnmet, IsMet, IsMetWith}
use Rattle.lv_replay.specs.Fairness.{are_met, first_unmet, is_met}
use Rattle.lv_replay.specs.Fits.{LassoFits}
use Rattle.lv_replay.specs.Run.{run_of, states_of}
use Rattle.lv_replay.specs.Rows.{row_of}
use Rattle.lv_replay.proofs.FirstLaw.{Failing, failing, first_failing, is_met_everywhere, none_fails, unmet_is_failing}
use Rattle.lv_replay.proofs.LassoLaw.{count_states, size_is, start, state_is, stem_is, steps}
use Rattle.lv_replay.proofs.RowLaw.{row_at_start}

met_somewhere : (f : Formula) (tuple : List ℕ) (ms : List Meaning) (d : Meaning) → is_met f tuple ms ≡ true → (k : ℕ) × (k < length ms) × (truth_in (get_or ms k d) f (reverse tuple) ≡ true)
met_somewhere f tuple [] d h = absurd (false≢true h)
met_somewhere f tuple (m ∷ ms) d h = elim (or_cases (truth_in m f (reverse tuple)) (is_met f tuple ms) h) [
  | inl e ↦ (0, omega arith, e)
  | inr e ↦ up (met_somewhere f tuple ms d e)
]
  where
    up : (k : ℕ) × (k < length ms) × (truth_in (get_or ms k d) f (reverse tuple) ≡ true) → (k : ℕ) × (k < suc (length ms)) × (truth_in (get_or (m ∷ ms) k d) f (reverse tuple) ≡ true)
    up w = (suc w.0, omega (arith, w.1), w.2)

met_from : (f : Formula) (tuple : List ℕ) (ms : List Meaning) (d : Meaning) (k : ℕ) → k < length ms → truth_in (get_or ms k d) f (reverse tuple) ≡ true → is_met f tuple ms ≡ true
met_from f tuple [] d k lt h = absurd (omega (arith, lt))
met_from f tuple (m ∷ ms) d zero lt h = or_left (truth_in m f (reverse tuple)) (is_met f tuple ms) h
met_from f tuple (m ∷ ms) d (suc k) lt h = or_right (truth_in m f (reverse tuple)) (is_met f tuple ms) (met_from f tuple ms d k (omega (arith, lt)) h)

met_each : (f : Formula) (ms : List Meaning) (ts : List (List ℕ)) → are_met f ms ts ≡ true → (tuple : List ℕ) → has_tuple ts tuple ≡ true → is_met f tuple ms ≡ true
met_each f ms [] h tuple e = absurd (false≢true e)
met_each f ms (t ∷ ts) h tuple e = let both = and_parts (is_met f t ms) (are_met f ms ts) h in elim (or_cases (tuple_eq t tuple) (has_tuple ts tuple) e) [
  | inl same ↦ subst (λ x. is_met f x ms ≡ true) ((tuple_tells t tuple).0 same) both.0
  | inr later ↦ met_each f ms ts both.1 tuple later
]

unmet_one : (f : Formula) (ms : List Meaning) (ts : List (List ℕ)) → are_met f ms ts ≡ false → (tuple : List ℕ) × (has_tuple ts tuple ≡ true) × (is_met f tuple ms ≡ false)
unmet_one f ms [] h = absurd (false≢true (sym h))
unmet_one f ms (t ∷ ts) h = elim (and_cases (is_met f t ms) (are_met f ms ts) h) [
  | inl e ↦ (t, or_left (tuple_eq t t) (has_tuple ts t) ((tuple_tells t t).1 refl), e)
  | inr e ↦ up (unmet_one f ms ts e)
]
  where
    up : (tuple : List ℕ) × (has_tuple ts tuple ≡ true) × (is_met f tuple ms ≡ false) → (tuple : List ℕ) × (has_tuple (t ∷ ts) tuple ≡ true) × (is_met f tuple ms ≡ false)
    up w = (w.0, or_right (tuple_eq t w.0) (has_tuple ts w.0) w.1, w.2)

module _ (p : Parts) (l : Lasso) (fit : LassoFits p l) where
  abbrev all : List Meaning
  all = states_of p (start p l fit) (steps p l fit)

  abbrev loop : List Meaning
  loop = drop (length l.stem) all

  loop_length : length loop ≡ suc (end_of (run_of p l)) - length l.stem
  loop_length = length-drop (length l.stem) all ∙ ap (λ n. n - length l.stem) (count_states p l fit)

  met_with : (c : Fair) (tuple : List ℕ) → is_met c.condition tuple loop ≡ true → IsMetWith (run_of p l) c tuple
  met_with c tuple h = by (met_somewhere c.condition tuple loop no_stop.state h)
    where
      by : (k : ℕ) × (k < length loop) × (truth_in (get_or loop k no_stop.state) c.condition (reverse tuple) ≡ true) → IsMetWith (run_of p l) c tuple
      by w =
          let n = loop_length in
          let s = stem_is p l fit in
          let lt = w.1 in
          let b : length l.stem + w.0 ≤ end_of (run_of p l) = omega (arith, n, lt) in (
            length l.stem + w.0,
            omega (arith, s),
            b,
            ap (λ m. truth_in m c.condition (reverse tuple)) (state_is p l fit (length l.stem + w.0) b ∙ sym (get_or-drop (length l.stem) all w.0 no_stop.state)) ∙ w.2,
          )

  with_met : (c : Fair) (tuple : List ℕ) → IsMetWith (run_of p l) c tuple → is_met c.condition tuple loop ≡ true
  with_met c tuple w =
      let n = loop_length in
      let s = stem_is p l fit in
      let above = w.1 in
      let below = w.2 in
      let here : length l.stem + (w.0 - length l.stem) ≡ w.0 = omega (arith, s, above) in
      met_from c.condition tuple loop no_stop.state (w.0 - length l.stem) (omega (arith, n, s, above, below))
      (ap (λ m. truth_in m c.condition (reverse tuple)) (get_or-drop (length l.stem) all (w.0 - length l.stem) no_stop.state ∙ (ap (λ i. get_or all i no_stop.state) here ∙ sym (state_is p l fit w.0 below))) ∙ w.3)

  range_is : (c : Fair) (tuple : List ℕ) → has_tuple (tuples_over (size_in l.start) c.params) tuple ≡ in_range ((run_of p l).state 0) c.params tuple
  range_is c tuple = has_tuple-tuples_over (size_in l.start) c.params tuple
      ∙ ap (λ size. in_range (record { size = size; holds = no_stop.state.holds; value = no_stop.state.value }) c.params tuple) (sym (size_is p l fit 0 (omega arith)))

  met : (c : Fair) → is_met_everywhere (size_in l.start) loop c ≡ true → IsMet (run_of p l) c
  met c h tuple range = met_with c tuple (met_each c.condition loop (tuples_over (size_in l.start) c.params) h tuple (range_is c tuple ∙ range))

  unmet : (c : Fair) → is_met_everywhere (size_in l.start) loop c ≡ false → (tuple : List ℕ) × (in_range ((run_of p l).state 0) c.params tuple ≡ true) × (IsMetWith (run_of p l) c tuple → ⊥)
  unmet c h = by (unmet_one c.condition loop (tuples_over (size_in l.start) c.params) h)
    where
      by : (tuple : List ℕ) × (has_tuple (tuples_over (size_in l.start) c.params) tuple ≡ true) × (is_met c.condition tuple loop ≡ false)
          → (tuple : List ℕ) × (in_range ((run_of p l).state 0) c.params tuple ≡ true) × (IsMetWith (run_of p l) c tuple → ⊥)
      by w = (w.0, sym (range_is c w.0) ∙ w.1, λ h. false≢true (sym w.2 ∙ with_met c w.0 h))

  loop_of : (states : List Tables) → map meaning states ≡ all → map meaning (drop (length l.stem) states) ≡ loop
  loop_of states e = sym (drop-map meaning (length l.stem) states) ∙ ap (drop (length l.stem)) e

  failing_of : (states : List Tables) (o : Option ℕ) → map meaning states ≡ all → first_unmet (size_in l.start) (map meaning (drop (length l.stem) states)) 0 p.fairs ≡ o
      → first_failing (is_met_everywhere (size_in l.start) loop) 0 p.fairs ≡ o
  failing_of states o e h = sym (unmet_is_failing (size_in l.start) loop 0 p.fairs) ∙ (ap (λ ms. first_unmet (size_in l.start) ms 0 p.fairs) (sym (loop_of states e)) ∙ h)

  -- the condition that was found is the first that is not met
  pub unfair : (states : List Tables) (k : ℕ) → map meaning states ≡ all → IsLassoRun p (run_of p l) → first_unmet (size_in l.start) (map meaning (drop (length l.stem) states)) 0 p.fairs ≡ Some k
      → IsAnswer p l (Unfair k)
  unfair states k e run h = by (failing (is_met_everywhere (size_in l.start) loop) no_fair 0 p.fairs k (failing_of states (Some k) e h))
    where
      by : Failing (is_met_everywhere (size_in l.start) loop) no_fair 0 p.fairs k → IsAnswer p l (Unfair k)
      by r = let i = r.is in let same : r.at ≡ k = omega (arith, i) in
          (run, subst (IsFirstUnmet p (run_of p l)) same (record { there = r.there; earlier = λ j lt. met (fair_at p j) (r.earlier j lt); unmet = unmet (fair_at p r.at) r.fails }))

  -- where none was found the run is fair
  pub fair : (states : List Tables) → map meaning states ≡ all → first_unmet (size_in l.start) (map meaning (drop (length l.stem) states)) 0 p.fairs ≡ None → IsFair p (run_of p l)
  fair states e h j lt = met (fair_at p j) (none_fails (is_met_everywhere (size_in l.start) loop) no_fair 0 p.fairs (failing_of states None e h) j lt)

  -- the first truth value of the property's row
  pub property_is : (states : List Tables) → map meaning states ≡ all → get_or (row_of (map meaning states) (length l.stem) p.property []) 0 false ≡ holds (run_of p l) (λ k. 0) p.property 0 []
  property_is states e = ap (λ ms. get_or (row_of ms (length l.stem) p.property []) 0 false) e
      ∙ (ap (λ n. get_or (row_of all n p.property []) 0 false) (sym (stem_is p l fit))
      ∙ row_at_start all (run_of p l) (count_states p l fit) (state_is p l fit) (λ i b. size_is p l fit i b ∙ sym (size_is p l fit 0 (omega arith))) p.property)
