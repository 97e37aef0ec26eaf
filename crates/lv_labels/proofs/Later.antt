-- Tests of the later positions of a lasso.
use Rattle.std.proofs.Common.{◌≡◌, ℕ, zero, suc, ◌<◌, ◌≤◌, Bool, true, false, not, ◌&&◌, ◌||◌, leb, eqb, min, refl, sym, ap, ◌∙◌, arith, inl, inr, ◌⊎◌, eqb-true, eq-eqb}
use Rattle.std.proofs.lemmas.Bool.{and_from, and_parts, and_cases, or_cases, or_left, or_right, false≢true, true≢false, cond_both, cases_eq, cases_lt, le-leb, lt-leb}
use Rattle.lv_formula.specs.Truth.{all_below}
use Rattle.lv_formula.proofs.Below.{all_below_same}
use Rattle.lv_formula.proofs.Readings.{all_below-each, all_below-from}
use Rattle.lv_system.specs.TemporalTruth.{Lasso, end_of, next_of, at_each_later}

-- a number below the bound at which the test fails
pub all_below_not : (n : ℕ) (p : ℕ → Bool) → all_below n p ≡ false → (i : ℕ) × (i < n) × (p i ≡ false)
all_below_not zero p h = absurd (true≢false h)
all_below_not (suc n) p h = elim (and_cases (all_below n p) (p n) h) [ inl k ↦ up (all_below_not n p k) | inr k ↦ (n, omega arith, k) ]
  where
    up : (i : ℕ) × (i < n) × (p i ≡ false) → (i : ℕ) × (i < suc n) × (p i ≡ false)
    up w = (w.0, omega (arith, w.1), w.2)

-- two truth values of which each follows from the other
pub bool_iff : (a b : Bool) → (a ≡ true → b ≡ true) → (b ≡ true → a ≡ true) → a ≡ b
bool_iff true true f g = refl
bool_iff true false f g = sym (f refl)
bool_iff false true f g = g refl
bool_iff false false f g = refl

module _ (l : Lasso) where
  -- two tests that say the same at each position
  pub later_same : (i : ℕ) (p q : ℕ → Bool) → ((j : ℕ) → p j ≡ q j) → at_each_later l i p ≡ at_each_later l i q
  later_same i p q h = all_below_same (suc (end_of l)) (λ j. not (leb (min i l.stem) j) || p j) (λ j. not (leb (min i l.stem) j) || q j) (λ j lt. ap (λ b. not (leb (min i l.stem) j) || b) (h j))

  -- what holds at each later position holds at one of them
  pub later_at : (i : ℕ) (p : ℕ → Bool) → at_each_later l i p ≡ true → (j : ℕ) → j ≤ end_of l → min i l.stem ≤ j → p j ≡ true
  later_at i p h j b m = elim (or_cases (not (leb (min i l.stem) j)) (p j) (all_below-each (suc (end_of l)) (λ j. not (leb (min i l.stem) j) || p j) h j (omega arith))) [
    | inl a ↦ absurd (false≢true (sym (ap not (le-leb (min i l.stem) j m)) ∙ a))
    | inr a ↦ a
  ]

  -- what holds at all later positions holds at each later position
  pub later_from : (i : ℕ) (p : ℕ → Bool) → ((j : ℕ) → j ≤ end_of l → min i l.stem ≤ j → p j ≡ true) → at_each_later l i p ≡ true
  later_from i p h = all_below-from (suc (end_of l)) (λ j. not (leb (min i l.stem) j) || p j) (λ j b. elim (cases_lt j (min i l.stem)) [
    | inl a ↦ or_left _ _ (ap not (lt-leb (min i l.stem) j a))
    | inr a ↦ or_right (not (leb (min i l.stem) j)) _ (h j (omega arith) a)
  ])

  -- what holds of the first position of the loop and of the position after holds of the next
  pub next_cases : (i : ℕ) (P : ℕ → Type 0) → (i ≡ end_of l → P l.stem) → ((i ≡ end_of l → ⊥) → P (suc i)) → P (next_of l i)
  next_cases i P f g = cond_both (eqb i (end_of l)) l.stem (suc i) P (λ h. f (eqb-true i (end_of l) h)) (λ h. g (λ e. false≢true (sym h ∙ eq-eqb i (end_of l) e)))

  -- the next position is on the lasso
  pub next_bound : (i : ℕ) → i ≤ end_of l → next_of l i ≤ end_of l
  next_bound i b = next_cases i (λ x. x ≤ end_of l) (λ e. omega arith) (λ e. omega (arith, e))

  -- in the loop the next position is in the loop too
  next_min : (i : ℕ) → i ≤ end_of l → min i l.stem ≤ min (next_of l i) l.stem
  next_min i b = next_cases i (λ x. min i l.stem ≤ min x l.stem) (λ e. omega arith) (λ e. omega arith)

  min_next : (i : ℕ) → i ≤ end_of l → (j : ℕ) → min i l.stem ≤ j → (i ≡ j) ⊎ (min (next_of l i) l.stem ≤ j)
  min_next i b j h = elim (cases_eq i j) [
    | inl e ↦ inl e
    | inr e ↦ inr (next_cases i (λ x. min x l.stem ≤ j) (λ k. omega (arith, k, h)) (λ k. omega (arith, e, h)))
  ]

  -- at each later position is here, and at each later position of the next
  pub later_step : (i : ℕ) (p : ℕ → Bool) → i ≤ end_of l → at_each_later l i p ≡ (p i && at_each_later l (next_of l i) p)
  later_step i p b = bool_iff _ _
      (λ h. and_from _ _ (later_at i p h i b (omega arith)) (later_from (next_of l i) p (λ j c m. later_at i p h j c (omega (arith, next_min i b)))))
      (λ h. let w : (p i ≡ true) × (at_each_later l (next_of l i) p ≡ true) = and_parts _ _ h in
      later_from i p (λ j c m. elim (min_next i b j m) [ inl e ↦ rw (← e) w.0 | inr q ↦ later_at (next_of l i) p w.1 j c q ]))
