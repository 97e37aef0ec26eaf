-- The lists of a sort's classes, as its terms are gone through.
use Rattle.std.proofs.Common.{◌≡◌, ◌≢◌, ℕ, zero, suc, ◌+◌, ◌<◌, ◌≤◌, Bool, true, false, cond, [], ◌∷◌, ◌++◌, length, get_or, refl, sym, ap, ◌∙◌, subst, eqb, arith, length-append}
use Rattle.std.specs.Prelude.{◌&&◌}
use Rattle.std.proofs.Math.Seq.{get_or-append_seam}
use Rattle.std.proofs.lemmas.Bool.{and_parts, and_from, eqb-true, eq-eqb, cond-true, cond-false, cases_lt, cases_eq, false≢true}
use Rattle.std.proofs.lemmas.List.{append-nil, get_or_append_left}
use Rattle.lv_formula.specs.Truth.{any_below}
use Rattle.lv_formula.proofs.Below.{any_below-holds}
use Rattle.lv_places.specs.Least.{least_below}
use Rattle.lv_places.proofs.Tests.{either, by_cases, least_in, least_passes, least_least}
use Rattle.lv_model.specs.Classes.{class_of, count_below, first_like, is_first, member_of}
use Rattle.lv_model.specs.Quotients.{befores_to, list_to, firsts_to}
use Rattle.lv_model.proofs.Quotient.{count_lt}

pub length-list_to : {A : Type 0} (n : ℕ) (f : ℕ → A) → length (list_to n f) ≡ n
length-list_to zero f = refl
length-list_to (suc n) f = let r = length-list_to n f in omega (arith, length-append (list_to n f) (f n ∷ []))

pub list_to_at : {A : Type 0} (n : ℕ) (f : ℕ → A) (i : ℕ) (d : A) → i < n → get_or (list_to n f) i d ≡ f i
list_to_at zero f i d l = absurd (omega arith)
list_to_at (suc n) f i d l = let len = length-list_to n f in
    either (cases_eq i n)
    (λ e. let z : i ≡ length (list_to n f) = omega arith in
    ap (λ j. get_or (list_to n f ++ f n ∷ []) j d) z ∙ get_or-append_seam (list_to n f) (f n) [] d ∙ ap f (sym e))
    (λ ne. get_or_append_left (list_to n f) (f n ∷ []) d i (omega arith) ∙ list_to_at n f i d (omega arith))

-- one more
pub list_to_next : {A : Type 0} (n : ℕ) (f : ℕ → A) → list_to (n + 1) f ≡ list_to n f ++ f n ∷ []
list_to_next n f = let z : n + 1 ≡ suc n = omega arith in ap (λ k. list_to k f) z

-- the least number, where none before it passes
pub least_at : (n i : ℕ) (p : ℕ → Bool) → i < n → any_below i p ≡ false → p i ≡ true → least_below n p ≡ i
least_at n i p l none h =
    let m = least_passes n p (any_below-holds n p i l h) in
    let up = least_least n p i l h in
    either (cases_lt (least_below n p) i)
    (λ lt. absurd (false≢true (sym none ∙ any_below-holds i p (least_below n p) lt m.1)))
    (λ ge. omega arith)

pub none_at : (n : ℕ) (p : ℕ → Bool) → any_below n p ≡ false → least_below n p ≡ 0
none_at zero p e = refl
none_at (suc n) p e = step (any_below n p) (p n) refl refl e
  where
    step : (a b : Bool) → any_below n p ≡ a → p n ≡ b → any_below (suc n) p ≡ false → least_below (suc n) p ≡ 0
    step true b ea eb h = absurd (false≢true (sym h ∙ any_true ea))
      where
        any_true : any_below n p ≡ true → any_below (suc n) p ≡ true
        any_true q = rw q refl
    step false true ea eb h = absurd (false≢true (sym h ∙ any_below-holds (suc n) p n (omega arith) eb))
    step false false ea eb h = cond-false (any_below n p) _ _ ea ∙ cond-false (p n) n 0 eb

-- ---- first terms

first_more : (eq : ℕ → ℕ → Bool) (n : ℕ) → is_first eq n ≡ true → firsts_to (suc n) eq ≡ firsts_to n eq ++ n ∷ []
first_more eq n h = ap (λ l. firsts_to n eq ++ l) (cond-true (is_first eq n) (n ∷ []) [] h)

first_same : (eq : ℕ → ℕ → Bool) (n : ℕ) → is_first eq n ≡ false → firsts_to (suc n) eq ≡ firsts_to n eq
first_same eq n h = ap (λ l. firsts_to n eq ++ l) (cond-false (is_first eq n) (n ∷ []) [] h) ∙ append-nil (firsts_to n eq)

pub firsts_pushed : (eq : ℕ → ℕ → Bool) (n : ℕ) → is_first eq n ≡ true → firsts_to (n + 1) eq ≡ firsts_to n eq ++ n ∷ []
firsts_pushed eq n h = let z : n + 1 ≡ suc n = omega arith in ap (λ k. firsts_to k eq) z ∙ first_more eq n h

pub firsts_kept : (eq : ℕ → ℕ → Bool) (n : ℕ) → is_first eq n ≡ false → firsts_to (n + 1) eq ≡ firsts_to n eq
firsts_kept eq n h = let z : n + 1 ≡ suc n = omega arith in ap (λ k. firsts_to k eq) z ∙ first_same eq n h

pub length-firsts_to : (eq : ℕ → ℕ → Bool) (n : ℕ) → length (firsts_to n eq) ≡ count_below n (is_first eq)
length-firsts_to eq zero = refl
length-firsts_to eq (suc n) = by_cases (is_first eq n)
    (λ h. ap length (first_more eq n h) ∙ length-append (firsts_to n eq) (n ∷ [])
    ∙ (let r = length-firsts_to eq n in let c = cond-true (is_first eq n) (suc (count_below n (is_first eq))) (count_below n (is_first eq)) h in omega arith))
    (λ h. ap length (first_same eq n h) ∙ length-firsts_to eq n
    ∙ sym (cond-false (is_first eq n) (suc (count_below n (is_first eq))) (count_below n (is_first eq)) h))

-- a first term, with so many before it
pub record IsFirstAt (eq : ℕ → ℕ → Bool) (n e m : ℕ) : Type 0 where
  pub below : m < n
  pub first : is_first eq m ≡ true
  pub before : count_below m (is_first eq) ≡ e

firsts_pass : (eq : ℕ → ℕ → Bool) (n e d : ℕ) → e < count_below n (is_first eq) → IsFirstAt eq n e (get_or (firsts_to n eq) e d)
firsts_pass eq zero e d l = absurd (omega arith)
firsts_pass eq (suc n) e d l = by_cases (is_first eq n)
    (λ h. let c = cond-true (is_first eq n) (suc (count_below n (is_first eq))) (count_below n (is_first eq)) h in
    let len = length-firsts_to eq n in
    subst (λ l. IsFirstAt eq (suc n) e (get_or l e d)) (sym (first_more eq n h))
    (either (cases_lt e (count_below n (is_first eq)))
    (λ lt. subst (IsFirstAt eq (suc n) e) (sym (get_or_append_left (firsts_to n eq) (n ∷ []) d e (omega arith))) (wider (firsts_pass eq n e d lt)))
    (λ ge. let z : e ≡ length (firsts_to n eq) = omega arith in
    let at : get_or (firsts_to n eq ++ n ∷ []) e d ≡ n = ap (λ j. get_or (firsts_to n eq ++ n ∷ []) j d) z ∙ get_or-append_seam (firsts_to n eq) n [] d in
    subst (IsFirstAt eq (suc n) e) (sym at) (record { below = omega arith; first = h; before = omega arith }))))
    (λ h. let c = cond-false (is_first eq n) (suc (count_below n (is_first eq))) (count_below n (is_first eq)) h in
    subst (λ l. IsFirstAt eq (suc n) e (get_or l e d)) (sym (first_same eq n h)) (wider (firsts_pass eq n e d (omega arith))))
  where
    wider : {m : ℕ} → IsFirstAt eq n e m → IsFirstAt eq (suc n) e m
    wider h = record { below = omega (arith, h.below); first = h.first; before = h.before }

-- a class has one first term
one_first : (eq : ℕ → ℕ → Bool) (n e i j : ℕ) → IsFirstAt eq n e i → IsFirstAt eq n e j → i ≡ j
one_first eq n e i j h k =
    either (cases_lt i j)
    (λ l. absurd (let c = count_lt j i (is_first eq) l h.first in omega (arith, h.before, k.before)))
    (λ ge. either (cases_lt j i)
    (λ l. absurd (let c = count_lt i j (is_first eq) l k.first in omega (arith, h.before, k.before)))
    (λ le. omega arith))

pub firsts_are_members : (eq : ℕ → ℕ → Bool) (n e d : ℕ) → e < count_below n (is_first eq) → get_or (firsts_to n eq) e d ≡ member_of eq n e
firsts_are_members eq n e d l =
    let h = firsts_pass eq n e d l in
    let m = get_or (firsts_to n eq) e d in
    let passes = and_from (is_first eq m) (eqb (count_below m (is_first eq)) e) h.first (eq-eqb (count_below m (is_first eq)) e h.before) in
    let p = least_passes n (λ i. is_first eq i && eqb (count_below i (is_first eq)) e)
    (any_below-holds n (λ i. is_first eq i && eqb (count_below i (is_first eq)) e) m h.below passes) in
    let b = and_parts (is_first eq (member_of eq n e)) (eqb (count_below (member_of eq n e) (is_first eq)) e) p.1 in
    let k : IsFirstAt eq n e (member_of eq n e) = record { below = p.0; first = b.0; before = eqb-true (count_below (member_of eq n e) (is_first eq)) e b.1 } in
    one_first eq n e m (member_of eq n e) h k

-- ---- a sort's terms, one after the other

pub first_within : (eq : ℕ → ℕ → Bool) (i : ℕ) → first_like eq i < suc i
first_within eq i = least_in (suc i) (λ j. eq j i) (omega arith)

-- the class of a term, by the classes that come before its first equal
pub class_at : (eq : ℕ → ℕ → Bool) (n d : ℕ) → get_or (befores_to (n + 1) eq) (first_like eq n) d ≡ class_of eq n
class_at eq n d = let w = first_within eq n in list_to_at (n + 1) (λ i. count_below i (is_first eq)) (first_like eq n) d (omega arith)
