-- The first item of a list that fails a test.
use Rattle.std.proofs.Common.{◌≡◌, ℕ, zero, suc, ◌+◌, ◌<◌, Bool, true, false, cond, List, [], ◌∷◌, length, get_or, Option, Some, None, refl, ap, arith}
use Rattle.lv_formula.specs.declared.symbols.SortId.{SortId}
use Rattle.lv_formula.specs.Meaning.{Meaning}
use Rattle.lv_formula.specs.Tuples.{tuples_over}
use Rattle.lv_system.specs.declared.parts.Fair.{Fair}
use Rattle.lv_replay.specs.Fairness.{are_met, first_unmet}

abbrev pub first_failing : {X : Type 0} → (X → Bool) → ℕ → List X → Option ℕ
first_failing test n [] = None
first_failing test n (x ∷ xs) = cond (test x) (first_failing test (suc n) xs) (Some n)

abbrev pub is_met_everywhere : (SortId → ℕ) → List Meaning → Fair → Bool
is_met_everywhere size ms c = are_met c.condition ms (tuples_over size c.params)

pub unmet_is_failing : (size : SortId → ℕ) (ms : List Meaning) (n : ℕ) (cs : List Fair) → first_unmet size ms n cs ≡ first_failing (is_met_everywhere size ms) n cs
unmet_is_failing size ms n [] = refl
unmet_is_failing size ms n (c ∷ cs) = ap (λ x. cond (is_met_everywhere size ms c) x (Some n)) (unmet_is_failing size ms (suc n) cs)

module _ {X : Type 0} (test : X → Bool) (d : X) where
  pub record Failing (n : ℕ) (xs : List X) (k : ℕ) : Type 0 where
    pub at : ℕ
    pub is : k ≡ n + at
    pub there : at < length xs
    pub earlier : (j : ℕ) → j < at → test (get_or xs j d) ≡ true
    pub fails : test (get_or xs at d) ≡ false

  pub failing : (n : ℕ) (xs : List X) (k : ℕ) → first_failing test n xs ≡ Some k → Failing n xs k
  failing n [] k h = cc
  failing n (x ∷ xs) k h = by (test x) refl h (failing (suc n) xs k)
    where
      later : test x ≡ true → Failing (suc n) xs k → Failing n (x ∷ xs) k
      later is r = record { at = suc r.at; is = let e = r.is in omega (arith, e); there = let e = r.there in omega (arith, e); earlier = before; fails = r.fails }
        where
          before : (j : ℕ) → j < suc r.at → test (get_or (x ∷ xs) j d) ≡ true
          before zero lt = is
          before (suc j) lt = r.earlier j (omega (arith, lt))

      by : (b : Bool) → test x ≡ b → cond b (first_failing test (suc n) xs) (Some n) ≡ Some k → (first_failing test (suc n) xs ≡ Some k → Failing (suc n) xs k) → Failing n (x ∷ xs) k
      by true is h rest = later is (rest h)
      by false is h rest = record { at = 0; is = let e : n ≡ k = cc in omega (arith, e); there = omega arith; earlier = λ j lt. absurd (omega (arith, lt)); fails = is }

  pub none_fails : (n : ℕ) (xs : List X) → first_failing test n xs ≡ None → (j : ℕ) → j < length xs → test (get_or xs j d) ≡ true
  none_fails n [] h j lt = absurd (omega (arith, lt))
  none_fails n (x ∷ xs) h j lt = by (test x) refl h (none_fails (suc n) xs) j lt
    where
      by : (b : Bool) → test x ≡ b → cond b (first_failing test (suc n) xs) (Some n) ≡ None → (first_failing test (suc n) xs ≡ None → (j : ℕ) → j < length xs → test (get_or xs j d) ≡ true)
          → (j : ℕ) → j < suc (length xs) → test (get_or (x ∷ xs) j d) ≡ true
      by true is h rest zero lt = is
      by true is h rest (suc j) lt = rest h j (omega (arith, lt))
      by false is h rest j lt = cc
