-- Tuples and their numbers: each tells the other.
use Rattle.std.proofs.Common.{◌≡◌, ℕ, zero, suc, ◌+◌, ◌*◌, ◌/◌, ◌%◌, ◌^◌, ◌<◌, ◌≤◌, Bool, true, false, ◌&&◌, ◌||◌, eqb, leb, ltb, cond, Option, Some, None, List, [], ◌∷◌, ◌++◌, length, get_or, take, map, Result, Ok, Err, refl, sym, ap, ap₂, subst, ◌∙◌, arith, ⊎_elim}
use Rattle.std.specs.List.{All, list_all}
use Rattle.std.proofs.Math.Nat.{div-add-mod, div-eq_of_lt, div-lt_iff_lt-mul, mod-eq_of_lt, mod-lt, mul-add-div_right, mul-add-mod_self_right, pow-suc}
use Rattle.std.proofs.Math.Bool.{and-false}
use Rattle.std.proofs.Math.Seq.{take-suc}
use Rattle.std.proofs.lemmas.List.{map-append}
use Rattle.std.proofs.lemmas.Bool.{and_parts, and_from, and_left, and_right, or_left, or_right, or_from, eqb-true, eq-eqb, ltb-true, lt-ltb, le-leb, ne_eqb, cases_lt}
use Rattle.std.proofs.lemmas.List.Elements.{All-head, All-tail}
use Rattle.std.proofs.lemmas.List.Sorted.{list_any-IsPermutation, searched}
use Rattle.std.specs.List.Sorted.{IsBinarySearchResult, IsNonDecreasing, IsPermutation}
use Rattle.std.specs.Ordering.{nat_cmp}
use Rattle.std.specs.Result.{is_ok}
use Rattle.lv_struct.proofs.CompareLaws.{tuple_tells}
use Rattle.lv_formula.specs.Tuples.{has_tuple, tuple_eq}
use Rattle.lv_struct.specs.Numbers.{IsIndex, digits_before, has_number, is_number, is_small, number_at, number_from, number_of, radix, tuple_of}

-- each element is a digit
abbrev pub are_digits : List ℕ → Bool
are_digits tuple = list_all (λ x. ltb x radix) tuple

digit_before : (k x : ℕ) → x < radix → (k * radix + x) / radix ≡ k
digit_before k x lt = mul-add-div_right (omega arith) k x ∙ ap (λ q. k + q) (div-eq_of_lt lt) ∙ omega arith

last_digit : (k x : ℕ) → x < radix → (k * radix + x) % radix ≡ x
last_digit k x lt = mul-add-mod_self_right k radix x ∙ mod-eq_of_lt lt

-- the digits behind a number are the elements that were put there
digits_of_number : (m k : ℕ) (t s : List ℕ) → are_digits t ≡ true → digits_before (length t + m) (number_from k t) s ≡ digits_before m k (t ++ s)
digits_of_number m k [] s h = ap (λ n. digits_before n k s) (let nothing : 0 + m ≡ m = omega arith in nothing)
digits_of_number m k (x ∷ t) s h =
    let both = and_parts (ltb x radix) (are_digits t) h in
    let lt : x < radix = ltb-true x radix both.0 in
    ap (λ n. digits_before n (number_from (k * radix + x) t) s) (more (length t) m)
    ∙ digits_of_number (suc m) (k * radix + x) t s both.1
    ∙ ap₂ (λ q r. digits_before m q (r ∷ (t ++ s))) (digit_before k x lt) (last_digit k x lt)
  where
    more : (a b : ℕ) → suc a + b ≡ a + suc b
    more a b = omega arith

-- the elements of a number's tuple are digits
digits_are_digits : (n k : ℕ) (s : List ℕ) → are_digits s ≡ true → are_digits (digits_before n k s) ≡ true
digits_are_digits zero k s h = h
digits_are_digits (suc n) k s h = digits_are_digits n (k / radix) ((k % radix) ∷ s)
    (and_from (ltb (k % radix) radix) (are_digits s) (lt-ltb (k % radix) radix (mod-lt k (omega arith))) h)

digits_length : (n k : ℕ) (s : List ℕ) → length (digits_before n k s) ≡ n + length s
digits_length zero k s = omega arith
digits_length (suc n) k s = digits_length n (k / radix) ((k % radix) ∷ s) ∙ omega arith

-- the number of a number's tuple is that number
number_of_digits : (n k : ℕ) (s : List ℕ) → k < radix ^ n → number_from 0 (digits_before n k s) ≡ number_from k s
number_of_digits zero k s lt = ap (λ q. number_from q s) (let small : k < 1 = lt in omega (arith, small))
number_of_digits (suc n) k s lt =
    number_of_digits n (k / radix) ((k % radix) ∷ s) ((div-lt_iff_lt-mul (omega arith)).1 (subst (λ p. k < p) (pow-suc radix n) lt))
    ∙ ap (λ q. number_from q s) (let parts = div-add-mod k radix in omega (arith, parts))

pub tuple_length : (n k : ℕ) → length (tuple_of n k) ≡ n
tuple_length n k = digits_length n k [] ∙ omega arith

append_nothing : (t : List ℕ) → t ++ [] ≡ t
append_nothing [] = refl
append_nothing (x ∷ t) = ap (λ s. x ∷ s) (append_nothing t)

-- a tuple of digits is that of its number
pub tuple_of_number : (t : List ℕ) → are_digits t ≡ true → tuple_of (length t) (number_from 0 t) ≡ t
tuple_of_number t h =
    ap (λ n. digits_before n (number_from 0 t) []) (let nothing : length t ≡ length t + 0 = omega arith in nothing)
    ∙ digits_of_number 0 0 t [] h
    ∙ append_nothing t

pub number_of_tuple : (n k : ℕ) → k < radix ^ n → number_from 0 (tuple_of n k) ≡ k
number_of_tuple n k = number_of_digits n k []

-- an element behind a number that has so few digits
pub one_more_digit : (n k x : ℕ) → k < radix ^ n → x < radix → k * radix + x < radix ^ suc n
one_more_digit n k x lt digit = subst (λ p. k * radix + x < p) (sym (pow-suc radix n)) (omega (arith, lt, digit))

number_below : (n k : ℕ) (t : List ℕ) → k < radix ^ n → are_digits t ≡ true → number_from k t < radix ^ (n + length t)
number_below n k [] lt h = subst (λ m. k < radix ^ m) (let nothing : n ≡ n + 0 = omega arith in nothing) lt
number_below n k (x ∷ t) lt h =
    let both = and_parts (ltb x radix) (are_digits t) h in
    subst (λ m. number_from (k * radix + x) t < radix ^ m) (let more : suc n + length t ≡ n + suc (length t) = omega arith in more)
    (number_below (suc n) (k * radix + x) t (one_more_digit n k x lt (ltb-true x radix both.0)) both.1)

pub number_is_below : (t : List ℕ) → are_digits t ≡ true → number_from 0 t < radix ^ length t
number_is_below t h = subst (λ m. number_from 0 t < radix ^ m) (let nothing : 0 + length t ≡ length t = omega arith in nothing) (number_below 0 0 t (omega arith) h)

same_answer : (a b : Bool) → (a ≡ true → b ≡ true) → (b ≡ true → a ≡ true) → a ≡ b
same_answer true true there back = refl
same_answer true false there back = sym (there refl)
same_answer false true there back = back refl
same_answer false false there back = refl

-- a tuple is the one of a number exactly where it has the length, is short, and has that number
module _ (n k : ℕ) (t : List ℕ) (lt : k < radix ^ n) where
  from_tuple : n ≤ 4 → tuple_of n k ≡ t → (eqb (length t) n && (is_small t && eqb k (number_from 0 t))) ≡ true
  from_tuple short e =
      let long : length t ≡ n = sym (ap length e) ∙ tuple_length n k in
      let few : leb (length t) 4 ≡ true = subst (λ m. leb m 4 ≡ true) (sym long) (le-leb n 4 short) in
      let digits : are_digits t ≡ true = subst (λ s. are_digits s ≡ true) e (digits_are_digits n k [] refl) in
      let same : k ≡ number_from 0 t = sym (number_of_tuple n k lt) ∙ ap (number_from 0) e in
      and_from (eqb (length t) n) (is_small t && eqb k (number_from 0 t)) (eq-eqb (length t) n long)
      (and_from (is_small t) (eqb k (number_from 0 t)) (and_from (leb (length t) 4) (are_digits t) few digits) (eq-eqb k (number_from 0 t) same))

  to_tuple : (eqb (length t) n && (is_small t && eqb k (number_from 0 t))) ≡ true → tuple_of n k ≡ t
  to_tuple h =
      let long = and_parts (eqb (length t) n) (is_small t && eqb k (number_from 0 t)) h in
      let rest = and_parts (is_small t) (eqb k (number_from 0 t)) long.1 in
      let digits = and_parts (leb (length t) 4) (are_digits t) rest.0 in
      ap₂ (λ m q. tuple_of m q) (sym (eqb-true (length t) n long.0)) (eqb-true k (number_from 0 t) rest.1) ∙ tuple_of_number t digits.1

  pub is_tuple_of : n ≤ 4 → tuple_eq (tuple_of n k) t ≡ (eqb (length t) n && (is_small t && eqb k (number_from 0 t)))
  is_tuple_of short = same_answer (tuple_eq (tuple_of n k) t) (eqb (length t) n && (is_small t && eqb k (number_from 0 t)))
      (λ yes. from_tuple short ((tuple_tells (tuple_of n k) t).0 yes))
      (λ h. (tuple_tells (tuple_of n k) t).1 (to_tuple h))

  pub is_tuple_of_other : n ≤ 4 → tuple_eq t (tuple_of n k) ≡ (eqb (length t) n && (is_small t && eqb (number_from 0 t) k))
  is_tuple_of_other short = same_answer (tuple_eq t (tuple_of n k)) (tuple_eq (tuple_of n k) t)
      (λ yes. (tuple_tells (tuple_of n k) t).1 (sym ((tuple_tells t (tuple_of n k)).0 yes)))
      (λ yes. (tuple_tells t (tuple_of n k)).1 (sym ((tuple_tells (tuple_of n k) t).0 yes)))
      ∙ is_tuple_of short
      ∙ ap (λ b. eqb (length t) n && (is_small t && b)) (same_answer (eqb k (number_from 0 t)) (eqb (number_from 0 t) k)
      (λ e. eq-eqb (number_from 0 t) k (sym (eqb-true k (number_from 0 t) e)))
      (λ e. eq-eqb k (number_from 0 t) (sym (eqb-true (number_from 0 t) k e))))

both_before : (a b c d : Bool) → ((a && (b && c)) || (a && (b && d))) ≡ (a && (b && (c || d)))
both_before true true c d = refl
both_before true false c d = refl
both_before false b c d = refl

-- a tuple is among those of numbers exactly where it has their length, is short, and its number is there
pub has_tuple_of_number : (n : ℕ) (ks : List ℕ) (t : List ℕ) → n ≤ 4 → All (λ k. k < radix ^ n) ks → has_tuple (map (tuple_of n) ks) t ≡ (eqb (length t) n && (is_small t && has_number ks (number_from 0 t)))
has_tuple_of_number n [] t short below = sym (ap (λ b. eqb (length t) n && b) (and-false (is_small t)) ∙ and-false (eqb (length t) n))
has_tuple_of_number n (k ∷ ks) t short below =
    ap₂ (λ a b. a || b) (is_tuple_of n k t (All-head (λ k. k < radix ^ n) k ks below) short) (has_tuple_of_number n ks t short (All-tail (λ k. k < radix ^ n) k ks below))
    ∙ both_before (eqb (length t) n) (is_small t) (eqb k (number_from 0 t)) (has_number ks (number_from 0 t))

-- the same of the tuple of a number
pub has_number_of_tuple : (n : ℕ) (ks : List ℕ) (m k : ℕ) → n ≤ 4 → All (λ k. k < radix ^ n) ks → k < radix ^ m → has_tuple (map (tuple_of n) ks) (tuple_of m k) ≡ (eqb m n && has_number ks k)
has_number_of_tuple n ks m k short below lt =
    has_tuple_of_number n ks (tuple_of m k) short below
    ∙ ap₂ (λ l q. eqb l n && (is_small (tuple_of m k) && has_number ks q)) (tuple_length m k) (number_of_tuple m k lt)
    ∙ same_answer (eqb m n && (is_small (tuple_of m k) && has_number ks k)) (eqb m n && has_number ks k)
    (λ h. let long = and_parts (eqb m n) (is_small (tuple_of m k) && has_number ks k) h in
    and_from (eqb m n) (has_number ks k) long.0 (and_parts (is_small (tuple_of m k)) (has_number ks k) long.1).1)
    (λ h. let long = and_parts (eqb m n) (has_number ks k) h in
    let few : leb (length (tuple_of m k)) 4 ≡ true = le-leb (length (tuple_of m k)) 4 (let e : m ≡ n = eqb-true m n long.0 in let l = tuple_length m k in omega (arith, e, l, short)) in
    and_from (eqb m n) (is_small (tuple_of m k) && has_number ks k) long.0
    (and_from (is_small (tuple_of m k)) (has_number ks k) (and_from (leb (length (tuple_of m k)) 4) (are_digits (tuple_of m k)) few (digits_are_digits m k [] refl)) long.1))

-- what a binary search tells in ascending numbers
number_there : (ks : List ℕ) (k i : ℕ) → i < length ks → get_or ks i 0 ≡ k → has_number ks k ≡ true
number_there [] k i lt e = absurd (omega (arith, lt))
number_there (n ∷ ks) k zero lt e = or_left (eqb n k) (has_number ks k) (eq-eqb n k e)
number_there (n ∷ ks) k (suc i) lt e = or_right (eqb n k) (has_number ks k) (number_there ks k i (omega (arith, lt)) e)

number_absent : (ks : List ℕ) (k : ℕ) → ((i : ℕ) → i < length ks → get_or ks i 0 ≡ k → ⊥) → has_number ks k ≡ false
number_absent [] k none = refl
number_absent (n ∷ ks) k none = or_from (eqb n k) (has_number ks k) (ne_eqb n k (none 0 (omega arith)))
    (number_absent ks k (λ i lt. none (suc i) (omega (arith, lt))))

pub search_tells : (ks : List ℕ) (k : ℕ) (r : Result ℕ ℕ) → IsNonDecreasing ks → IsBinarySearchResult (λ y. nat_cmp y k) ks r → is_ok r ≡ has_number ks k
search_tells ks k (Ok i) up found = sym (let it = searched ks k (Ok i) found (λ i j. up i j 0) in number_there ks k i it.0 it.1)
search_tells ks k (Err i) up found = sym (let it = searched ks k (Err i) found (λ i j. up i j 0) in
    number_absent ks k (λ j lt e. ⊎_elim
    (λ before. let below = it.1 j before in omega (arith, below, e))
    (λ behind. let above = it.2 j behind lt in omega (arith, above, e))
    (cases_lt j i)))

-- a number at that length tells the tuple
pub number_at_tells : (n : ℕ) (t : List ℕ) (k : ℕ) → number_at n t ≡ Some k → (tuple_of n k ≡ t) × (k < radix ^ n)
number_at_tells n t k h =
    let long = some_if_true (eqb (length t) n) (number_of t) k h in
    let small = some_if_true (is_small t) (Some (number_from 0 t)) k long.1 in
    let length_is : length t ≡ n = eqb-true (length t) n long.0 in
    let digits = and_parts (leb (length t) 4) (are_digits t) small.0 in
    let number : number_from 0 t ≡ k = some_inj small.1 in (
      ap₂ tuple_of (sym length_is) (sym number) ∙ tuple_of_number t digits.1,
      subst (λ m. m < radix ^ n) number (subst (λ m. number_from 0 t < radix ^ m) length_is (number_is_below t digits.1)),
    )
  where
    some_if_true : (b : Bool) (o : Option ℕ) (k : ℕ) → cond b o None ≡ Some k → (b ≡ true) × (o ≡ Some k)
    some_if_true true o k e = (refl, e)
    some_if_true false o k e = cc

    some_inj : {a b : ℕ} → Some a ≡ Some b → a ≡ b
    some_inj e = cc

-- whether a tuple is that of a number, told by its own
pub is_tuple_of_number : (n k : ℕ) (t : List ℕ) → n ≤ 4 → k < radix ^ n → tuple_eq t (tuple_of n k) ≡ is_number k (number_at n t)
is_tuple_of_number n k t short lt = is_tuple_of_other n k t lt short ∙ told (eqb (length t) n) (is_small t) (number_from 0 t)
  where
    told : (a b : Bool) (m : ℕ) → (a && (b && eqb m k)) ≡ is_number k (cond a (cond b (Some m) None) None)
    told true true m = refl
    told true false m = refl
    told false b m = refl

-- whether a tuple is among those of numbers, told by its own
module _ (n : ℕ) (ks : List ℕ) (t : List ℕ) (short : n ≤ 4) (below : All (λ k. k < radix ^ n) ks) where
  pub other_length : (length t ≡ n → ⊥) → has_tuple (map (tuple_of n) ks) t ≡ false
  other_length other = has_tuple_of_number n ks t short below ∙ and_left (eqb (length t) n) (is_small t && has_number ks (number_from 0 t)) (ne_eqb (length t) n other)

  pub has_by_number : length t ≡ n → (k : ℕ) → number_of t ≡ Some k → has_tuple (map (tuple_of n) ks) t ≡ has_number ks k
  has_by_number long k h = has_tuple_of_number n ks t short below
      ∙ rw (eq-eqb (length t) n long) (told (is_small t) (number_from 0 t) h)
    where
      told : (b : Bool) (m : ℕ) → cond b (Some m) None ≡ Some k → (b && has_number ks m) ≡ has_number ks k
      told true m e = ap (has_number ks) (let same : m ≡ k = cc in same)
      told false m e = cc

  pub no_number : number_of t ≡ None → has_tuple (map (tuple_of n) ks) t ≡ false
  no_number h = has_tuple_of_number n ks t short below
      ∙ and_right (eqb (length t) n) (is_small t && has_number ks (number_from 0 t)) (told (is_small t) (number_from 0 t) h)
    where
      told : (b : Bool) (m : ℕ) → cond b (Some m) None ≡ None → (b && has_number ks m) ≡ false
      told true m e = cc
      told false m e = refl

-- numbers that ascend are an index of themselves, and sorted ones of those that were sorted
pub index_of_itself : (ks : List ℕ) → IsNonDecreasing ks → IsIndex ks ks
index_of_itself ks up = record { ascends = up; same = λ k. refl }

pub index_by_sorting : (ks sorted : List ℕ) → IsPermutation ks sorted → IsNonDecreasing sorted → IsIndex ks sorted
index_by_sorting ks sorted moved up = record { ascends = up; same = λ k. sym (list_any-IsPermutation (λ n. eqb n k) ks sorted moved) }

-- one more tuple, with its number behind the others
pub one_more_number : (n : ℕ) (ts : List (List ℕ)) (i : ℕ) (ks : List ℕ) (k : ℕ) (d : List ℕ) → i < length ts → number_at n (get_or ts i d) ≡ Some k → map (tuple_of n) ks ≡ take i ts → map (tuple_of n) (ks ++ k ∷ []) ≡ take (i + 1) ts
one_more_number n ts i ks k d lt h before =
    map-append (tuple_of n) ks (k ∷ [])
    ∙ ap₂ (λ us t. us ++ t ∷ []) before (number_at_tells n (get_or ts i d) k h).0
    ∙ sym (take-suc ts i d lt)
    ∙ ap (λ m. take m ts) (let one : suc i ≡ i + 1 = omega arith in one)
