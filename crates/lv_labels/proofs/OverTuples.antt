-- What it says that a formula holds of each tuple, and that each of a numbered list does.
use Rattle.std.proofs.Common.{◌≡◌, ℕ, zero, suc, ◌+◌, ◌<◌, Bool, true, false, ◌&&◌, List, [], ◌∷◌, ◌++◌, length, get_or, reverse, refl, sym, ap, subst, ◌∙◌, arith}
use Rattle.std.proofs.lemmas.Bool.{and_from, and_parts, false≢true, lt-ltb, ltb-true}
use Rattle.std.proofs.lemmas.List.{append-nil, append_assoc, reverse-append}
use Rattle.lv_formula.specs.declared.symbols.SortId.{SortId}
use Rattle.lv_formula.specs.declared.formula.Formula.{Formula}
use Rattle.lv_formula.specs.Meaning.{Meaning, in_range, is_element}
use Rattle.lv_formula.specs.Truth.{all_true_in, truth_in}
use Rattle.lv_formula.proofs.Readings.{true-All}
use Rattle.lv_labels.specs.Closing.{all_over, numbered}

-- the values of a tuple behind those of its first element
pub reversed : (x : ℕ) (xs env : List ℕ) → reverse (x ∷ xs) ++ env ≡ reverse xs ++ (x ∷ env)
reversed x xs env = ap (λ ys. ys ++ env) (reverse-append (x ∷ []) xs) ∙ append_assoc (reverse xs) (x ∷ []) env

module _ (m : Meaning) (f : Formula) where
  pub all_over-each : (ss : List SortId) (env : List ℕ) → truth_in m (all_over ss f) env ≡ true → (tuple : List ℕ) → in_range m ss tuple ≡ true → truth_in m f (reverse tuple ++ env) ≡ true
  all_over-each [] env h [] inside = h
  all_over-each [] env h (x ∷ xs) inside = absurd (false≢true inside)
  all_over-each (s ∷ ss) env h [] inside = absurd (false≢true inside)
  all_over-each (s ∷ ss) env h (x ∷ xs) inside =
      let both = and_parts (is_element m s x) (in_range m ss xs) inside in
      ap (truth_in m f) (reversed x xs env) ∙ all_over-each ss (x ∷ env) ((true-All m s (all_over ss f) env).0 h x (ltb-true x (m.size s) both.0)) xs both.1

  pub all_over-from : (ss : List SortId) (env : List ℕ) → ((tuple : List ℕ) → in_range m ss tuple ≡ true → truth_in m f (reverse tuple ++ env) ≡ true) → truth_in m (all_over ss f) env ≡ true
  all_over-from [] env h = h [] refl
  all_over-from (s ∷ ss) env h = (true-All m s (all_over ss f) env).1 (λ x lt. all_over-from ss (x ∷ env) (λ xs inside.
      ap (truth_in m f) (sym (reversed x xs env)) ∙ h (x ∷ xs) (and_from (is_element m s x) (in_range m ss xs) (lt-ltb x (m.size s) lt) inside)))

  -- a closed formula over tuples is true exactly where the formula is, of each tuple in range
  pub closed-each : (ss : List SortId) → truth_in m (all_over ss f) [] ≡ true → (tuple : List ℕ) → in_range m ss tuple ≡ true → truth_in m f (reverse tuple) ≡ true
  closed-each ss h tuple inside = ap (truth_in m f) (sym (append-nil (reverse tuple))) ∙ all_over-each ss [] h tuple inside

  pub closed-from : (ss : List SortId) → ((tuple : List ℕ) → in_range m ss tuple ≡ true → truth_in m f (reverse tuple) ≡ true) → truth_in m (all_over ss f) [] ≡ true
  closed-from ss h = all_over-from ss [] (λ tuple inside. ap (truth_in m f) (append-nil (reverse tuple)) ∙ h tuple inside)

-- ---- numbered lists

module _ {X : Type 0} (d : X) (f : ℕ → X → Formula) (m : Meaning) (env : List ℕ) where
  pub numbered-each : (n : ℕ) (xs : List X) → all_true_in m (numbered f n xs) env ≡ true → (i : ℕ) → i < length xs → truth_in m (f (n + i) (get_or xs i d)) env ≡ true
  numbered-each n [] h i l = absurd (omega (arith, l))
  numbered-each n (x ∷ xs) h zero l = let here : n + 0 ≡ n = omega arith in rw (here) (and_parts (truth_in m (f n x) env) (all_true_in m (numbered f (suc n) xs) env) h).0
  numbered-each n (x ∷ xs) h (suc i) l = let there : n + suc i ≡ suc n + i = omega arith in
      rw (there) (numbered-each (suc n) xs (and_parts (truth_in m (f n x) env) (all_true_in m (numbered f (suc n) xs) env) h).1 i (omega (arith, l)))

  pub numbered-from : (n : ℕ) (xs : List X) → ((i : ℕ) → i < length xs → truth_in m (f (n + i) (get_or xs i d)) env ≡ true) → all_true_in m (numbered f n xs) env ≡ true
  numbered-from n [] h = refl
  numbered-from n (x ∷ xs) h = and_from (truth_in m (f n x) env) (all_true_in m (numbered f (suc n) xs) env)
      (let here : n ≡ n + 0 = omega arith in subst (λ k. truth_in m (f k x) env ≡ true) (sym here) (h 0 (omega arith)))
      (numbered-from (suc n) xs (λ i l. let there : n + suc i ≡ suc n + i = omega arith in subst (λ k. truth_in m (f k (get_or xs i d)) env ≡ true) there (h (suc i) (omega (arith, l)))))

  -- the first has the number 0
  pub all_numbered-each : (xs : List X) → all_true_in m (numbered f 0 xs) env ≡ true → (i : ℕ) → i < length xs → truth_in m (f i (get_or xs i d)) env ≡ true
  all_numbered-each xs h i l = let z : 0 + i ≡ i = omega arith in subst (λ k. truth_in m (f k (get_or xs i d)) env ≡ true) z (numbered-each 0 xs h i l)

  pub all_numbered-from : (xs : List X) → ((i : ℕ) → i < length xs → truth_in m (f i (get_or xs i d)) env ≡ true) → all_true_in m (numbered f 0 xs) env ≡ true
  all_numbered-from xs h = numbered-from 0 xs (λ i l. let z : i ≡ 0 + i = omega arith in subst (λ k. truth_in m (f k (get_or xs i d)) env ≡ true) z (h i l))

-- ---- lists one behind the other

pub all_true-append : (m : Meaning) (fs gs : List Formula) (env : List ℕ) → all_true_in m (fs ++ gs) env ≡ (all_true_in m fs env && all_true_in m gs env)
all_true-append m [] gs env = refl
all_true-append m (f ∷ fs) gs env = ap (λ b. truth_in m f env && b) (all_true-append m fs gs env) ∙ assoc (truth_in m f env) (all_true_in m fs env) (all_true_in m gs env)
  where
    assoc : (a b c : Bool) → (a && (b && c)) ≡ ((a && b) && c)
    assoc true b c = refl
    assoc false b c = refl
