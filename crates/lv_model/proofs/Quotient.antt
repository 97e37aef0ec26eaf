-- Classes of an equivalence on the numbers below n.
use Rattle.std.proofs.Common.{◌≡◌, ℕ, zero, suc, ◌<◌, ◌≤◌, Bool, true, false, sym, ap, ◌∙◌, subst, arith, eqb}
use Rattle.std.specs.Prelude.{◌&&◌}
use Rattle.std.proofs.lemmas.Bool.{and_parts, and_from, eqb-true, eq-eqb, ne_eqb, cond-true, cond-false, false≢true, cases_lt, cases_eq}
use Rattle.lv_formula.proofs.Below.{any_below-holds}
use Rattle.lv_places.proofs.Tests.{either, by_cases, least_passes, least_least}
use Rattle.lv_model.specs.Classes.{count_below, first_like, is_first, class_of, classes, member_of}

count_more : (n : ℕ) (p : ℕ → Bool) → count_below n p ≤ count_below (suc n) p
count_more n p = by_cases (p n) (λ e. let q = cond-true (p n) (suc (count_below n p)) (count_below n p) e in omega arith)
    (λ e. let q = cond-false (p n) (suc (count_below n p)) (count_below n p) e in omega arith)

pub count_lt : (n i : ℕ) (p : ℕ → Bool) → i < n → p i ≡ true → count_below i p < count_below n p
count_lt zero i p l h = absurd (omega arith)
count_lt (suc n) i p l h =
    either (cases_eq i n)
    (λ e. let h' : p n ≡ true = subst (λ k. p k ≡ true) e h in
    let q = cond-true (p n) (suc (count_below n p)) (count_below n p) h' in
    let e2 = ap (λ k. count_below k p) e in
    omega arith)
    (λ ne. let r = count_lt n i p (omega arith) h in let q = count_more n p in omega arith)

-- each number below the count is the count below some number that passes
abbrev Onto : ℕ → ℕ → (ℕ → Bool) → Type 0
Onto n e p = (i : ℕ) × (i < n) × (p i ≡ true) × (count_below i p ≡ e)

widen : (n e : ℕ) (p : ℕ → Bool) → Onto n e p → Onto (suc n) e p
widen n e p r = (r.0, omega (arith, r.1), r.2, r.3)

onto_step : (n e : ℕ) (p : ℕ → Bool) → e < count_below (suc n) p → (e < count_below n p → Onto n e p) → Onto (suc n) e p
onto_step n e p l ih = by_cases (p n) yes_n no_n
  where
    yes_n : p n ≡ true → Onto (suc n) e p
    yes_n h =
        let q = cond-true (p n) (suc (count_below n p)) (count_below n p) h in
        either (cases_lt e (count_below n p)) (λ k. widen n e p (ih k)) (λ k. (n, omega arith, h, omega arith))

    no_n : p n ≡ false → Onto (suc n) e p
    no_n h =
        let q = cond-false (p n) (suc (count_below n p)) (count_below n p) h in
        widen n e p (ih (omega arith))

count_onto : (n e : ℕ) (p : ℕ → Bool) → e < count_below n p → Onto n e p
count_onto zero e p l = absurd (omega arith)
count_onto (suc n) e p l = onto_step n e p l (λ k. count_onto n e p k)

pub record IsEquivalence (eq : ℕ → ℕ → Bool) (n : ℕ) : Type 0 where
  pub reflexive : (i : ℕ) → i < n → eq i i ≡ true
  pub symmetric : (i j : ℕ) → i < n → j < n → eq i j ≡ true → eq j i ≡ true
  pub transitive : (i j k : ℕ) → i < n → j < n → k < n → eq i j ≡ true → eq j k ≡ true → eq i k ≡ true

module _ (eq : ℕ → ℕ → Bool) (n : ℕ) (is : IsEquivalence eq n) where
  first_is : (i : ℕ) → i < n → (first_like eq i ≤ i) × (eq (first_like eq i) i ≡ true)
  first_is i l =
      let p = least_passes (suc i) (λ j. eq j i) (any_below-holds (suc i) (λ j. eq j i) i (omega arith) (is.reflexive i l)) in
      (omega (arith, p.0), p.1)

  first_least : (i j : ℕ) → i < n → j < n → eq j i ≡ true → first_like eq i ≤ j
  first_least i j li lj h =
      either (cases_lt i j)
      (λ l. let f = first_is i li in omega (arith, f.0))
      (λ l. least_least (suc i) (λ j. eq j i) j (omega arith) h)

  firsts_same : (i j : ℕ) → i < n → j < n → eq i j ≡ true → first_like eq i ≡ first_like eq j
  firsts_same i j li lj h =
      let fi = first_is i li in
      let fj = first_is j lj in
      let li' : first_like eq i < n = omega (arith, fi.0) in
      let lj' : first_like eq j < n = omega (arith, fj.0) in
      let a = first_least i (first_like eq j) li lj' (is.transitive (first_like eq j) j i lj' lj li fj.1 (is.symmetric i j li lj h)) in
      let b = first_least j (first_like eq i) lj li' (is.transitive (first_like eq i) i j li' li lj fi.1 h) in
      omega arith

  same_firsts : (i j : ℕ) → i < n → j < n → first_like eq i ≡ first_like eq j → eq i j ≡ true
  same_firsts i j li lj h =
      let fi = first_is i li in
      let fj = first_is j lj in
      let li' : first_like eq i < n = omega (arith, fi.0) in
      is.transitive i (first_like eq i) j li li' lj (is.symmetric (first_like eq i) i li' li fi.1) (subst (λ k. eq k j ≡ true) (sym h) fj.1)

  first_is_first : (i : ℕ) → i < n → is_first eq (first_like eq i) ≡ true
  first_is_first i l =
      let f = first_is i l in
      let l' : first_like eq i < n = omega (arith, f.0) in
      eq-eqb _ _ (firsts_same (first_like eq i) i l' l f.1)

  pub class_below : (i : ℕ) → i < n → class_of eq i < classes eq n
  class_below i l =
      let f = first_is i l in
      let l' : first_like eq i < n = omega (arith, f.0) in
      count_lt n (first_like eq i) (is_first eq) l' (first_is_first i l)

  same_class : (i j : ℕ) → i < n → j < n → class_of eq i ≡ class_of eq j → first_like eq i ≡ first_like eq j
  same_class i j li lj h =
      either (cases_lt (first_like eq i) (first_like eq j))
      (λ l. absurd (let c = count_lt (first_like eq j) (first_like eq i) (is_first eq) l (first_is_first i li) in omega arith))
      (λ le. either (cases_lt (first_like eq j) (first_like eq i))
      (λ l. absurd (let c = count_lt (first_like eq i) (first_like eq j) (is_first eq) l (first_is_first j lj) in omega arith))
      (λ ge. omega arith))

  pub class_tells : (i j : ℕ) → i < n → j < n → eqb (class_of eq i) (class_of eq j) ≡ eq i j
  class_tells i j li lj =
      by_cases (eq i j)
      (λ h. eq-eqb _ _ (ap (λ k. count_below k (is_first eq)) (firsts_same i j li lj h)) ∙ sym h)
      (λ h. ne_eqb _ _ (λ c. false≢true (sym h ∙ same_firsts i j li lj (same_class i j li lj c))) ∙ sym h)

  pub member_is : (e : ℕ) → e < classes eq n → (member_of eq n e < n) × (class_of eq (member_of eq n e) ≡ e)
  member_is e l =
      let o = count_onto n e (is_first eq) l in
      let p = least_passes n (λ i. is_first eq i && eqb (count_below i (is_first eq)) e) (any_below-holds n _ o.0 o.1 (and_from _ _ o.2 (eq-eqb _ _ o.3)))
      in
      let b = and_parts (is_first eq (member_of eq n e)) _ p.1 in
      (p.0, ap (λ k. count_below k (is_first eq)) (eqb-true _ _ b.0) ∙ eqb-true _ _ b.1)
