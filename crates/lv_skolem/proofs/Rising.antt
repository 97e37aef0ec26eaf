-- The numbers of terms rise until they stay.
use Rattle.std.proofs.Common.{◌≡◌, ℕ, zero, suc, ◌+◌, ◌*◌, ◌<◌, ◌≤◌, Bool, true, false, cond, eqb, List, [], ◌∷◌, ◌++◌, length, get_or, refl, sym, ap, ap₂, ◌∙◌, arith, length-append, None, add-one}
use Rattle.std.proofs.lemmas.Bool.{cases_eq, cases_lt}
use Rattle.std.proofs.lemmas.List.{get_or_past, get_or_append_left}
use Rattle.std.proofs.Math.Seq.{get_or-append_seam}
use Rattle.std.proofs.Math.Nat.{mul-le-mul}
use Rattle.lv_formula.specs.declared.symbols.SortId.{SortId}
use Rattle.lv_places.specs.declared.skolem.Place.{Place}
use Rattle.lv_places.specs.declared.skolem.Skolem.{Skolem}
use Rattle.lv_places.specs.Universes.{count_at, product, place_count, argument_sorts}
use Rattle.lv_places.specs.Sizes.{at_least_one, IsCount}
use Rattle.lv_skolem.specs.Counting.{capped, number_of, numbers_to, AreSmall, total, NextIs, CountsAre}
use Rattle.lv_places.proofs.Tests.{either}

-- ---- sums

pub total_append : (xs : List ℕ) (x : ℕ) → total (xs ++ x ∷ []) ≡ total xs + x
total_append [] x = omega arith
total_append (y ∷ xs) x = let r = total_append xs x in omega arith

pub at_most_total : (xs : List ℕ) (i : ℕ) → get_or xs i 0 ≤ total xs
at_most_total [] i = omega arith
at_most_total (x ∷ xs) zero = omega arith
at_most_total (x ∷ xs) (suc i) = let r = at_most_total xs i in omega arith

small_none : (xs : List ℕ) → total xs ≡ 0 → AreSmall xs
small_none [] e = tt
small_none (x ∷ xs) e = (omega arith, small_none xs (omega arith))

pub total_small : (xs : List ℕ) → AreSmall xs → total xs ≤ 159 * length xs
total_small [] h = omega arith
total_small (x ∷ xs) h = let r = total_small xs h.1 in omega (arith, h.0, r)

pub small_append : (xs : List ℕ) (x : ℕ) → AreSmall xs → x < 160 → AreSmall (xs ++ x ∷ [])
small_append [] x h l = (l, tt)
small_append (y ∷ xs) x h l = (h.0, small_append xs x h.1 l)

total_rises : (xs ys : List ℕ) → length xs ≡ length ys → ((i : ℕ) → get_or xs i 0 ≤ get_or ys i 0) → total xs ≤ total ys
total_rises [] [] e h = omega arith
total_rises [] (y ∷ ys) e h = omega arith
total_rises (x ∷ xs) [] e h = absurd (omega arith)
total_rises (x ∷ xs) (y ∷ ys) e h = let r = total_rises xs ys (omega arith) (λ i. h (suc i)) in omega (arith, h 0, r)

same_total : (xs ys : List ℕ) → length xs ≡ length ys → ((i : ℕ) → get_or xs i 0 ≤ get_or ys i 0) → total ys ≡ total xs → ys ≡ xs
same_total [] [] e h t = refl
same_total [] (y ∷ ys) e h t = absurd (omega arith)
same_total (x ∷ xs) [] e h t = absurd (omega arith)
same_total (x ∷ xs) (y ∷ ys) e h t =
    let r = total_rises xs ys (omega arith) (λ i. h (suc i)) in
    let a : y ≡ x = omega (arith, h 0, r) in
    ap₂ (λ z zs. z ∷ zs) a (same_total xs ys (omega arith) (λ i. h (suc i)) (omega arith))

-- ---- more terms of the others give more terms

module _ (n m : SortId → ℕ) (h : (s : SortId) → n s ≤ m s) where
  pub product_rises : (ss : List SortId) → product n ss ≤ product m ss
  product_rises [] = omega arith
  product_rises (s ∷ ss) = mul-le-mul (h s) (product_rises ss)

  places_rise : (s : SortId) (ps : List Place) → place_count n s ps ≤ place_count m s ps
  places_rise s [] = omega arith
  places_rise s (p ∷ ps) = let r = places_rise s ps in let q = here (eqb p.sort.0 s.0) in omega arith
    where
      here : (b : Bool) → cond b (product n (argument_sorts p)) 0 ≤ cond b (product m (argument_sorts p)) 0
      here true = product_rises (argument_sorts p)
      here false = omega arith

  at_least_rises : (a b : ℕ) → a ≤ b → at_least_one a ≤ at_least_one b
  at_least_rises zero zero l = omega arith
  at_least_rises zero (suc b) l = omega arith
  at_least_rises (suc a) zero l = absurd (omega arith)
  at_least_rises (suc a) (suc b) l = omega arith

  number_rises : (sk : Skolem) (s : SortId) → number_of sk n s ≤ number_of sk m s
  number_rises sk s = at_least_rises _ _ (let r = places_rise s sk.places in omega arith)

-- ---- the next numbers

length-numbers_to : (sk : Skolem) (n : SortId → ℕ) (k : ℕ) → length (numbers_to sk n k) ≡ k
length-numbers_to sk n zero = refl
length-numbers_to sk n (suc k) =
    let r = length-numbers_to sk n k in omega (arith, r, length-append (numbers_to sk n k) (number_of sk n (record { 0 = k }) ∷ []))

number_at : (sk : Skolem) (n : SortId → ℕ) (k : ℕ) (s : SortId) → s.0 < k → count_at (numbers_to sk n k) s ≡ number_of sk n s
number_at sk n zero s l = absurd (omega arith)
number_at sk n (suc k) s l = let len = length-numbers_to sk n k in
    either (cases_eq s.0 k)
    (λ e. let z : s.0 ≡ length (numbers_to sk n k) = omega arith in
    let same : record { 0 = k } ≡ s = λ i. record { 0 = sym e i } in
    ap (λ j. get_or (numbers_to sk n k ++ number_of sk n (record { 0 = k }) ∷ []) j 0) z
    ∙ get_or-append_seam (numbers_to sk n k) (number_of sk n (record { 0 = k })) [] 0 ∙ ap (number_of sk n) same)
    (λ ne. let lt : s.0 < length (numbers_to sk n k) = omega arith in
    get_or_append_left (numbers_to sk n k) (number_of sk n (record { 0 = k }) ∷ []) 0 s.0 lt ∙ number_at sk n k s (omega arith))

-- ---- the numbers rise, and stay below every solution

pub record Rises (sk : Skolem) (ns : List ℕ) : Type 0 where
  pub len : length ns ≡ sk.sorts
  pub small : AreSmall ns
  pub rising : (s : SortId) → s.0 < sk.sorts → count_at ns s ≤ number_of sk (count_at ns) s
  pub below : (n : SortId → ℕ) → IsCount sk n → (s : SortId) → count_at ns s ≤ n s

pub rises_none : (sk : Skolem) (ns : List ℕ) → length ns ≡ sk.sorts → total ns ≡ 0 → Rises sk ns
rises_none sk ns len none = record {
  len = len;
  small = small_none ns none;
  rising = λ s l. let r = at_most_total ns s.0 in omega arith;
  below = λ n is s. let r = at_most_total ns s.0 in omega arith;
}

module _ (sk : Skolem) (ns next : List ℕ) (rises : Rises sk ns) (is : next ≡ numbers_to sk (count_at ns) sk.sorts) where
  pub next_length : length next ≡ sk.sorts
  next_length = ap length is ∙ length-numbers_to sk (count_at ns) sk.sorts

  next_at : (s : SortId) → s.0 < sk.sorts → count_at next s ≡ number_of sk (count_at ns) s
  next_at s l = ap (λ l. count_at l s) is ∙ number_at sk (count_at ns) sk.sorts s l

  risen : (s : SortId) → count_at ns s ≤ count_at next s
  risen s = either (cases_lt s.0 sk.sorts)
      (λ l. let a = next_at s l in let b = rises.rising s l in omega arith)
      (λ l. let e = get_or_past ns s.0 0 (omega (arith, rises.len)) in omega arith)

  pub sum_risen : total ns ≤ total next
  sum_risen = total_rises ns next (rises.len ∙ sym next_length) (λ i. risen (record { 0 = i }))

  -- where the sum stays, all numbers stay
  pub stays : total next ≡ total ns → IsCount sk (count_at ns)
  stays t s l = let same = same_total ns next (rises.len ∙ sym next_length) (λ i. risen (record { 0 = i })) t in
      sym (ap (λ l. count_at l s) same) ∙ next_at s l

  pub next_rises : AreSmall next → Rises sk next
  next_rises small = record {
    len = next_length;
    small = small;
    rising = λ s l. let a = next_at s l in let b = number_rises (count_at ns) (count_at next) risen sk s in omega arith;
    below = λ n solves s. either (cases_lt s.0 sk.sorts)
        (λ l. let a = next_at s l in let b = number_rises (count_at ns) n (rises.below n solves) sk s in let c = solves s l in omega arith)
        (λ l. let e = get_or_past next s.0 0 (let z = next_length in omega arith) in omega arith);
  }

-- a number that is too large is too large in every solution
pub too_large : (sk : Skolem) (ns : List ℕ) → Rises sk ns → NextIs sk (count_at ns) None → CountsAre sk None
too_large sk ns rises h n solves =
    let a = number_rises (count_at ns) n (rises.below n solves) sk h.0 in
    let b = solves h.0 h.1 in
    (h.0, h.1, omega (arith, h.2, a, b))

-- a number that is small is not capped
pub exact : (k x : ℕ) → k ≡ capped x → k < 160 → k ≡ x
exact k x e l = omega arith

pub numbers_next : (sk : Skolem) (n : SortId → ℕ) (k : ℕ) → numbers_to sk n k ++ number_of sk n (record { 0 = k }) ∷ [] ≡ numbers_to sk n (k + 1)
numbers_next sk n k = rw add-one refl
