-- Witnesses chosen in order.
use Rattle.std.proofs.Common.{◌≡◌, ℕ, zero, suc, ◌<◌, ◌≤◌, Bool, true, false, not, ◌&&◌, ◌||◌, eqb, ltb, cond, List, [], ◌∷◌, map, Option, Some, None, refl, sym, ap, ap₂, ◌∙◌, arith, inl, inr, eq-eqb, ne_eqb}
use Rattle.std.proofs.lemmas.Bool.{and_parts, false≢true, cond_both, cases_eq}
use Rattle.lv_formula.specs.declared.symbols.SortId.{SortId}
use Rattle.lv_formula.specs.declared.symbols.Sym.{Sym}
use Rattle.lv_formula.specs.declared.symbols.Sym.TheVariants.{Own, Witness, Label, Frozen, Saved, Touched, Kept, Due, Copy, CopyLabel, Next, Param}
use Rattle.lv_formula.specs.declared.terms.Term.{Term}
use Rattle.lv_formula.specs.declared.terms.Term.TheVariants.{Var, Const}
use Rattle.lv_formula.specs.declared.vocabulary.Vocabulary.{Vocabulary}
use Rattle.lv_formula.specs.declared.temporal.Temporal.{Temporal}
use Rattle.lv_formula.specs.Vocabulary.{relation_in, constant_in}
use Rattle.lv_formula.specs.Fits.{sort_of, is_sort, have_sorts, are_arguments}
use Rattle.lv_formula.specs.TemporalFits.{temporal_fits_in, all_temporal_fit_in}
use Rattle.lv_formula.proofs.Induction.{Each}
use Rattle.lv_formula.proofs.TemporalFolds.{folds_at}
use Rattle.lv_formula.proofs.TemporalInduction.{by_cases}
use Rattle.lv_formula.specs.Meaning.{Meaning}
use Rattle.lv_formula.specs.Truth.{Env, value_of, values_of, any_below, iff}
use Rattle.lv_system.specs.declared.parts.Parts.{Parts}
use Rattle.lv_system.specs.TemporalTruth.{Lasso, holds, value_with, with_witnesses, all_hold, any_holds}
use Rattle.lv_system.specs.Vocabularies.{witness_vocabulary}
use Rattle.lv_temporal.specs.TrueLabels.{chosen, pick, witness_at}
use Rattle.lv_formula.proofs.Below.{all_below_same, any_below_same}
use Rattle.lv_labels.proofs.Later.{later_same}
use Rattle.lv_labels.proofs.InContext.{agree_some, is_sort_some}
use Rattle.lv_labels.proofs.HoldsAt.{held}
use Rattle.lv_temporal.proofs.Vocabularies.{witness_early}

-- ---- the witnesses that a formula doesn't have don't matter

module _ (voc : Vocabulary) (l : Lasso) (ws vs : ℕ → ℕ) (same : (k : ℕ) (s : SortId) → constant_in voc.constants (Witness k) ≡ Some s → ws k ≡ vs k) where
  constant_same : (m : Meaning) (c : Sym) (s : SortId) → constant_in voc.constants c ≡ Some s → value_with m ws c ≡ value_with m vs c
  constant_same m (Own x) s h = refl
  constant_same m (Witness k) s h = same k s h
  constant_same m (Label n) s h = refl
  constant_same m Frozen s h = refl
  constant_same m Saved s h = refl
  constant_same m (Touched x) s h = refl
  constant_same m (Kept x) s h = refl
  constant_same m (Due x) s h = refl
  constant_same m (Copy x) s h = refl
  constant_same m (CopyLabel x) s h = refl
  constant_same m (Next x) s h = refl
  constant_same m (Param x) s h = refl

  value_same : (m : Meaning) (c : List SortId) (e : Env) (t : Term) (s : SortId) → sort_of voc c t ≡ Some s → value_of (with_witnesses m ws) e t ≡ value_of (with_witnesses m vs) e t
  value_same m c e (Var v) s h = refl
  value_same m c e (Const k) s h = constant_same m k s h

  values_same : (m : Meaning) (c : List SortId) (e : Env) (ts : List Term) (ss : List SortId) → have_sorts voc c ts ss ≡ true → values_of (with_witnesses m ws) e ts ≡ values_of (with_witnesses m vs) e ts
  values_same m c e [] ss h = refl
  values_same m c e (t ∷ ts) [] h = absurd (false≢true h)
  values_same m c e (t ∷ ts) (s ∷ ss) h =
      let both = and_parts (is_sort (sort_of voc c t) s) (have_sorts voc c ts ss) h in
      let found = is_sort_some (sort_of voc c t) s both.0 in
      ap₂ (λ x xs. x ∷ xs) (value_same m c e t found.0 found.1) (values_same m c e ts ss both.1)

  arguments_same : (m : Meaning) (c : List SortId) (e : Env) (ts : List Term) (o : Option (List SortId)) → are_arguments voc c ts o ≡ true → values_of (with_witnesses m ws) e ts ≡ values_of (with_witnesses m vs) e ts
  arguments_same m c e ts None h = absurd (false≢true h)
  arguments_same m c e ts (Some ss) h = values_same m c e ts ss h

  abbrev Alike : Temporal → Type 0
  Alike f = (c : List SortId) (i : ℕ) (e : Env) → temporal_fits_in voc c f ≡ true → holds l ws f i e ≡ holds l vs f i e

  all_alike : (fs : List Temporal) → Each Alike fs → (c : List SortId) (i : ℕ) (e : Env) → all_temporal_fit_in voc c fs ≡ true → all_hold (map (holds l ws) fs) i e ≡ all_hold (map (holds l vs) fs) i e
  all_alike [] each c i e h = refl
  all_alike (f ∷ fs) each c i e h = let both = and_parts (temporal_fits_in voc c f) (all_temporal_fit_in voc c fs) h in
      ap₂ (λ a b. a && b) (each.0 c i e both.0) (all_alike fs each.1 c i e both.1)

  any_alike : (fs : List Temporal) → Each Alike fs → (c : List SortId) (i : ℕ) (e : Env) → all_temporal_fit_in voc c fs ≡ true → any_holds (map (holds l ws) fs) i e ≡ any_holds (map (holds l vs) fs) i e
  any_alike [] each c i e h = refl
  any_alike (f ∷ fs) each c i e h = let both = and_parts (temporal_fits_in voc c f) (all_temporal_fit_in voc c fs) h in
      ap₂ (λ a b. a || b) (each.0 c i e both.0) (any_alike fs each.1 c i e both.1)

  -- a formula holds alike with witnesses that agree on those that it may use
  pub holds_alike : (f : Temporal) → Alike f
  holds_alike = by_cases Alike record {
    at_true = λ c i e h. simp held refl;
    at_false = λ c i e h. simp held refl;
    at_atom = λ r ts c i e h. simp held (ap ((l.state i).holds r) (arguments_same (l.state i) c e ts (relation_in voc.relations r) (simp folds_at at h)));
    at_same = λ a b c i e h. let k = agree_some (sort_of voc c a) (sort_of voc c b) (simp folds_at at h) in
        simp held (ap₂ eqb (value_same (l.state i) c e a k.0.0 k.0.1) (value_same (l.state i) c e b k.1.0 k.1.1));
    at_not = λ f ih c i e h. simp held (ap not (ih c i e (simp folds_at at h)));
    at_and = λ fs each c i e h. simp held (all_alike fs each c i e (simp folds_at at h));
    at_or = λ fs each c i e h. simp held (any_alike fs each c i e (simp folds_at at h));
    at_implies = λ f g ihf ihg c i e h. let both = and_parts (temporal_fits_in voc c f) (temporal_fits_in voc c g) (simp folds_at at h) in
        simp held (ap₂ (λ a b. not a || b) (ihf c i e both.0) (ihg c i e both.1));
    at_iff = λ f g ihf ihg c i e h. let both = and_parts (temporal_fits_in voc c f) (temporal_fits_in voc c g) (simp folds_at at h) in
        simp held (ap₂ iff (ihf c i e both.0) (ihg c i e both.1));
    at_all = λ s f ih c i e h. let both = and_parts (ltb s.0 voc.sorts) (temporal_fits_in voc (s ∷ c) f) (simp folds_at at h) in
        simp held (all_below_same ((l.state i).size s) (λ x. holds l ws f i (x ∷ e)) (λ x. holds l vs f i (x ∷ e)) (λ x lt. ih (s ∷ c) i (x ∷ e) both.1));
    at_any = λ s f ih c i e h. let both = and_parts (ltb s.0 voc.sorts) (temporal_fits_in voc (s ∷ c) f) (simp folds_at at h) in
        simp held (any_below_same ((l.state i).size s) (λ x. holds l ws f i (x ∷ e)) (λ x. holds l vs f i (x ∷ e)) (λ x lt. ih (s ∷ c) i (x ∷ e) both.1));
    at_always = λ f ih c i e h. simp held (later_same l i (λ j. holds l ws f j e) (λ j. holds l vs f j e) (λ j. ih c j e (simp folds_at at h)));
    at_eventually = λ f ih c i e h. simp held (ap not (later_same l i (λ j. not (holds l ws f j e)) (λ j. not (holds l vs f j e)) (λ j. ap not (ih c j e (simp folds_at at h)))));
  }

-- ---- choosing a number that passes a test

-- the number that is picked is below the bound, if there is one
pub pick_below : (n : ℕ) (test : ℕ → Bool) → 0 < n → pick n test < n
pick_below zero test h = h
pick_below (suc n) test h = cond_both (test n) n (pick n test) (λ v. v < suc n) (λ k. omega arith) (λ k. small n)
  where
    small : (n : ℕ) → pick n test < suc n
    small zero = omega arith
    small (suc n) = cond_both (test n) n (pick n test) (λ v. v < suc (suc n)) (λ k. omega arith) (λ k. omega (arith, small n))

-- the number that is picked passes, if any does
pub pick_passes : (n : ℕ) (test : ℕ → Bool) → any_below n test ≡ true → test (pick n test) ≡ true
pick_passes zero test h = absurd (false≢true h)
pick_passes (suc n) test h = go (test n) refl h (pick_passes n test)
  where
    or_false : (a : Bool) → (a || false) ≡ true → a ≡ true
    or_false true e = refl
    or_false false e = e

    go : (b : Bool) → test n ≡ b → (any_below n test || b) ≡ true → (any_below n test ≡ true → test (pick n test) ≡ true) → test (cond b n (pick n test)) ≡ true
    go true k h ih = k
    go false k h ih = ih (or_false (any_below n test) h)

-- ---- the chosen elements

module _ (p : Parts) (l : Lasso) where
  -- the test by which the witness with number k is chosen
  abbrev pub choosing : ℕ → ℕ → Bool
  choosing k x = holds l (chosen p l k) (witness_at p k).formula 0 (x ∷ [])

  -- what was chosen stays
  pub chosen_stays : (m k j : ℕ) → j < k → k ≤ m → chosen p l m j ≡ chosen p l k j
  unfolding chosen
  chosen_stays zero k j a b = absurd (omega arith)
  chosen_stays (suc m) k j a b = elim (cases_eq k (suc m)) [
    | inl e ↦ rw e
    | inr e ↦ ap (λ b. cond b (pick ((l.state 0).size (witness_at p m).sort) (choosing m)) (chosen p l m j)) (ne_eqb j m (λ q. omega (arith, q, e))) ∙ chosen_stays m k j a (omega (arith, e))
  ]

  chosen_now : (k : ℕ) → chosen p l (suc k) k ≡ pick ((l.state 0).size (witness_at p k).sort) (choosing k)
  unfolding chosen
  chosen_now k = ap (λ b. cond b (pick ((l.state 0).size (witness_at p k).sort) (choosing k)) (chosen p l k k)) (eq-eqb k k refl)

  -- which element is chosen for a witness
  pub chosen_is : (m k : ℕ) → k < m → chosen p l m k ≡ pick ((l.state 0).size (witness_at p k).sort) (choosing k)
  chosen_is m k b = chosen_stays m (suc k) k (omega arith) b ∙ chosen_now k

  -- nothing is chosen for numbers past the last
  pub chosen_beyond : (m k : ℕ) → m ≤ k → chosen p l m k ≡ 0
  unfolding chosen
  chosen_beyond zero k h = refl
  chosen_beyond (suc m) k h = ap (λ b. cond b (pick ((l.state 0).size (witness_at p m).sort) (choosing m)) (chosen p l m k)) (ne_eqb k m (λ e. omega (arith, e))) ∙ chosen_beyond m k (omega arith)

  -- the chosen element of a witness meets its formula, if any element does
  pub chosen_meets : (m k : ℕ) → k < m → temporal_fits_in (witness_vocabulary p k) ((witness_at p k).sort ∷ []) (witness_at p k).formula ≡ true
      → any_below ((l.state 0).size (witness_at p k).sort) (λ x. holds l (chosen p l m) (witness_at p k).formula 0 (x ∷ [])) ≡ true
      → holds l (chosen p l m) (witness_at p k).formula 0 (chosen p l m k ∷ []) ≡ true
  chosen_meets m k b fits h =
      early (chosen p l m k) ∙ (ap (choosing k) (chosen_is m k b)
      ∙ pick_passes ((l.state 0).size (witness_at p k).sort) (choosing k)
      (sym (any_below_same ((l.state 0).size (witness_at p k).sort) (λ x. holds l (chosen p l m) (witness_at p k).formula 0 (x ∷ [])) (choosing k) (λ x lt. early x)) ∙ h))
    where
      early : (x : ℕ) → holds l (chosen p l m) (witness_at p k).formula 0 (x ∷ []) ≡ holds l (chosen p l k) (witness_at p k).formula 0 (x ∷ [])
      early x = holds_alike (witness_vocabulary p k) l (chosen p l m) (chosen p l k) (λ j s e. chosen_stays m k j (witness_early p k j s e).0 (omega arith)) (witness_at p k).formula ((witness_at p k).sort ∷ []) 0 (x ∷ []) fits
