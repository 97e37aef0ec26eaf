-- What was touched on an unrolled lasso run is in range.
use Rattle.std.proofs.Common.{◌≡◌, ℕ, suc, ◌<◌, Bool, true, false, ◌&&◌, ◌||◌, cond, eqb, ltb, List, [], ◌∷◌, length, sym, ap, ap₂, ◌∙◌, inl, inr, lt-ltb, eqb-true}
use Rattle.std.proofs.lemmas.Bool.{and_parts, or_cases, false≢true}
use Rattle.std.proofs.lemmas.List.{length-map}
use Rattle.lv_formula.specs.declared.symbols.SortId.{SortId}
use Rattle.lv_formula.specs.declared.symbols.Sym.TheVariants.{Own}
use Rattle.lv_formula.specs.Meaning.{Meaning, in_range, is_element}
use Rattle.lv_formula.specs.Truth.{any_below}
use Rattle.lv_formula.proofs.Readings.{any_below-some}
use Rattle.lv_system.specs.declared.parts.Parts.{Parts}
use Rattle.lv_system.specs.Lasso.{IsLassoRun}
use Rattle.lv_system.specs.Step.{action_at, symbol_at}
use Rattle.lv_system.specs.TemporalTruth.{Lasso}
use Rattle.lv_system.specs.Vocabularies.{constant_sort}
use Rattle.lv_labels.specs.Labels.{labels_of}
use Rattle.lv_labels.specs.Problem.{choice_at, choice_of, problem_of}
use Rattle.lv_labels.specs.Runs.{is_constant, is_constant_value, is_denoted, is_finite, is_passed, is_witness_value, touched}
use Rattle.lv_temporal.specs.TrueLabels.{position_on, witness_at}
use Rattle.lv_temporal.proofs.FitsMore.{own_constant_found}
use Rattle.lv_temporal.proofs.ReadingTruth.{shown}
use Rattle.lv_temporal.proofs.Scoped.{is_sort_true}
use Rattle.lv_labels.proofs.Sameness.{sort_true}
use Rattle.lv_temporal.proofs.Unrolled.{all_chosen, choice_at_is, chosen_below, position_bound, size_at, structure_at, unrolled_run}

-- what a step takes is in each set that its elements are in
pub passed_in : (m : Meaning) (params : List SortId) (elements : List ℕ) (s : SortId) (x : ℕ) → in_range m params elements ≡ true → is_passed params elements s x ≡ true → is_element m s x ≡ true
passed_in m [] es s x h k = absurd (false≢true k)
passed_in m (t ∷ ts) [] s x h k = absurd (false≢true k)
passed_in m (t ∷ ts) (e ∷ es) s x h k = elim (or_cases (eqb t.0 s.0 && eqb e x) (is_passed ts es s x) k) [ inl j ↦ here j | inr j ↦ passed_in m ts es s x (and_parts (is_element m t e) (in_range m ts es) h).1 j ]
  where
    here : (eqb t.0 s.0 && eqb e x) ≡ true → is_element m s x ≡ true
    here j =
        let both = and_parts (eqb t.0 s.0) (eqb e x) j in
        ap₂ (is_element m) (sym (sort_true t s both.0)) (sym (eqb-true e x both.1)) ∙ (and_parts (is_element m t e) (in_range m ts es) h).0

module _ (p : Parts) (l : Lasso) (run : IsLassoRun p l) where
  -- an element at one position is one at the start
  at_start : (i : ℕ) (s : SortId) (x : ℕ) → is_element (l.state (position_on l i)) s x ≡ true → is_element (l.state 0) s x ≡ true
  at_start i s x h = ap (ltb x) (sym (size_at p l run i s)) ∙ h

  constant_in_range : (i : ℕ) (s : SortId) (x : ℕ) → is_constant_value p (λ c. (l.state (position_on l i)).value (Own c)) s x ≡ true → is_element (l.state 0) s x ≡ true
  constant_in_range i s x h = found (any_below-some (length p.symbols) (λ c. is_constant (symbol_at p c) s && eqb ((l.state (position_on l i)).value (Own c)) x) h)
    where
      found : (c : ℕ) × (c < length p.symbols) × ((is_constant (symbol_at p c) s && eqb ((l.state (position_on l i)).value (Own c)) x) ≡ true) → is_element (l.state 0) s x ≡ true
      found w =
          let both = and_parts (is_constant (symbol_at p w.0) s) (eqb ((l.state (position_on l i)).value (Own w.0)) x) w.2 in
          let below : (l.state (position_on l i)).value (Own w.0) < (l.state (position_on l i)).size s = (structure_at p l run i).constants (Own w.0) s (own_constant_found p w.0 s w.1 (is_sort_true (constant_sort (symbol_at p w.0).shape) s both.0)) in
          at_start i s x (ap (is_element (l.state (position_on l i)) s) (sym (eqb-true ((l.state (position_on l i)).value (Own w.0)) x both.1)) ∙ lt-ltb _ _ below)

  witness_in_range : (i : ℕ) (s : SortId) (x : ℕ) → is_witness_value (problem_of p) (shown p l (all_chosen p l) (position_on l i)) s x ≡ true → is_element (l.state 0) s x ≡ true
  witness_in_range i s x h = found (any_below-some (length (problem_of p).choices) (λ k. eqb (choice_at (problem_of p) k).sort.0 s.0 && eqb (all_chosen p l k) x) h)
    where
      found : (k : ℕ) × (k < length (problem_of p).choices) × ((eqb (choice_at (problem_of p) k).sort.0 s.0 && eqb (all_chosen p l k) x) ≡ true) → is_element (l.state 0) s x ≡ true
      found w =
          let both = and_parts (eqb (choice_at (problem_of p) w.0).sort.0 s.0) (eqb (all_chosen p l w.0) x) w.2 in
          let lt : w.0 < length p.witnesses = rw (length-map p.witnesses (choice_of (labels_of p))) at w.1 in
          let is : (witness_at p w.0).sort ≡ s = ap (λ c. c.sort) (sym (choice_at_is p w.0 lt)) ∙ sort_true (choice_at (problem_of p) w.0).sort s both.0 in
          ap₂ (is_element (l.state 0)) (sym is) (sym (eqb-true (all_chosen p l w.0) x both.1)) ∙ lt-ltb _ _ (chosen_below p l run w.0 lt)

  denoted_in_range : (i : ℕ) (s : SortId) (x : ℕ) → is_denoted (problem_of p) (shown p l (all_chosen p l) (position_on l i)) s x ≡ true → is_element (l.state 0) s x ≡ true
  denoted_in_range i s x h = elim (or_cases (is_constant_value p (λ c. (l.state (position_on l i)).value (Own c)) s x) (is_witness_value (problem_of p) (shown p l (all_chosen p l) (position_on l i)) s x) h) [
    | inl k ↦ constant_in_range i s x k
    | inr k ↦ witness_in_range i s x k
  ]

  abbrev was_denoted : SortId → ℕ → ℕ → Bool
  was_denoted s x k = is_denoted (problem_of p) (shown p l (all_chosen p l) (position_on l k)) s x

  abbrev was_passed : SortId → ℕ → ℕ → Bool
  was_passed s x k = is_passed (action_at p (l.action (position_on l k))).params (l.elements (position_on l k)) s x

  -- what was touched at a position is in range
  pub touched_in_range : (last i : ℕ) (s : SortId) (x : ℕ) → touched (problem_of p) (unrolled_run p l (all_chosen p l) last) i s x ≡ true → is_element (l.state 0) s x ≡ true
  touched_in_range last i s x h = go (is_finite p s) h
    where
      denoted : any_below (suc i) (was_denoted s x) ≡ true → is_element (l.state 0) s x ≡ true
      denoted k = let w : (j : ℕ) × (j < suc i) × (was_denoted s x j ≡ true) = any_below-some (suc i) (was_denoted s x) k in denoted_in_range w.0 s x w.2

      passed : any_below i (was_passed s x) ≡ true → is_element (l.state 0) s x ≡ true
      passed k = let w : (j : ℕ) × (j < i) × (was_passed s x j ≡ true) = any_below-some i (was_passed s x) k in
          at_start w.0 s x (passed_in (l.state (position_on l w.0)) (action_at p (l.action (position_on l w.0))).params (l.elements (position_on l w.0)) s x (run.allowed (position_on l w.0) (position_bound p l run w.0)).in_sorts w.2)

      go : (b : Bool) → cond b (is_element (l.state 0) s x) (any_below (suc i) (was_denoted s x) || any_below i (was_passed s x)) ≡ true → is_element (l.state 0) s x ≡ true
      go true k = k
      go false k = elim (or_cases (any_below (suc i) (was_denoted s x)) (any_below i (was_passed s x)) k) [ inl e ↦ denoted e | inr e ↦ passed e ]
