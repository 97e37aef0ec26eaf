-- Tables of labels, in which each key stands once.
use Rattle.std.proofs.Common.{◌≡◌, ℕ, suc, ◌≤◌, Bool, true, false, ◌||◌, cond, leb, ltb, List, [], ◌∷◌, ◌++◌, length, slice_get, Some, refl, sym, ap, subst, ◌∙◌, arith, append_assoc, length-append}
use Rattle.std.proofs.lemmas.Bool.{leb-true, le-ltb}
use Rattle.std.proofs.lemmas.List.{append-nil}
use Rattle.lv_labels.specs.declared.key.Key.{Key}
use Rattle.lv_labels.specs.Labels.{key_eq, number_of}
use Rattle.lv_labels.specs.Once.{is_among, once_behind}
use Rattle.lv_grammar.specs.LabelLimits.{are_narrow}
use Rattle.lv_fitting.proofs.Tests.{and_first, and_second}
use Rattle.lv_fitting.proofs.KeyTest.{key_is, key_self}

-- ---- lists in which each key stands once

pub once_both : (known xs ys : List Key) → once_behind key_eq known (xs ++ ys) ≡ once_behind key_eq (once_behind key_eq known xs) ys
once_both known [] ys = refl
once_both known (x ∷ xs) ys = once_both (cond (is_among key_eq x known) known (known ++ x ∷ [])) xs ys

-- the table behind what is known
pub record Grown (known whole : List Key) : Type 0 where
  pub more : List Key
  pub is : whole ≡ known ++ more

grown_by_one : (known : List Key) (x : Key) → Grown known (cond (is_among key_eq x known) known (known ++ x ∷ []))
grown_by_one known x = go (is_among key_eq x known) where
  go : (b : Bool) → Grown known (cond b known (known ++ x ∷ []))
  go true = record { more = []; is = sym (append-nil known) }
  go false = record { more = x ∷ []; is = refl }

pub grown_on : (a b c : List Key) → Grown a b → Grown b c → Grown a c
grown_on a b c g h = record { more = g.more ++ h.more; is = h.is ∙ (ap (λ z. z ++ h.more) g.is ∙ append_assoc a g.more h.more) }

pub once_grows : (known xs : List Key) → Grown known (once_behind key_eq known xs)
once_grows known [] = record { more = []; is = sym (append-nil known) }
once_grows known (x ∷ xs) =
    let next = cond (is_among key_eq x known) known (known ++ x ∷ []) in
    grown_on known next (once_behind key_eq next xs) (grown_by_one known x) (once_grows next xs)

pub grown_through : (known xs whole : List Key) → Grown (once_behind key_eq known xs) whole → Grown known whole
grown_through known xs whole g = grown_on known (once_behind key_eq known xs) whole (once_grows known xs) g

-- ---- keys in lists

pub among_both : (k : Key) (xs ys : List Key) → is_among key_eq k (xs ++ ys) ≡ (is_among key_eq k xs || is_among key_eq k ys)
among_both k [] ys = refl
among_both k (x ∷ xs) ys = go (key_eq k x) (among_both k xs ys) where
  go : (b : Bool) → is_among key_eq k (xs ++ ys) ≡ (is_among key_eq k xs || is_among key_eq k ys) → (b || is_among key_eq k (xs ++ ys)) ≡ ((b || is_among key_eq k xs) || is_among key_eq k ys)
  go true rest = refl
  go false rest = rest

among_first : (k : Key) (xs ys : List Key) → is_among key_eq k xs ≡ true → is_among key_eq k (xs ++ ys) ≡ true
among_first k xs ys e = among_both k xs ys ∙ ap (λ b. b || is_among key_eq k ys) e

or_true : (b : Bool) → (b || true) ≡ true
or_true true = refl
or_true false = refl

pub among_last : (k : Key) (xs ys : List Key) → is_among key_eq k ys ≡ true → is_among key_eq k (xs ++ ys) ≡ true
among_last k xs ys e = among_both k xs ys ∙ (ap (λ b. is_among key_eq k xs || b) e ∙ or_true (is_among key_eq k xs))

pub among_grown : (k : Key) (known whole : List Key) → Grown known whole → is_among key_eq k known ≡ true → is_among key_eq k whole ≡ true
among_grown k known whole g e = ap (is_among key_eq k) g.is ∙ among_first k known g.more e

-- a key that is put behind the known ones is there
known_next : (known : List Key) (k : Key) → is_among key_eq k (cond (is_among key_eq k known) known (known ++ k ∷ [])) ≡ true
known_next known k = go (is_among key_eq k known) refl where
  go : (b : Bool) → is_among key_eq k known ≡ b → is_among key_eq k (cond b known (known ++ k ∷ [])) ≡ true
  go true h = h
  go false h = among_last k known (k ∷ []) (ap (λ b. b || false) (key_self k))

pub known_after : (known : List Key) (k : Key) (ks : List Key) → is_among key_eq k (once_behind key_eq known (k ∷ ks)) ≡ true
known_after known k ks =
    let next = cond (is_among key_eq k known) known (known ++ k ∷ []) in
    among_grown k next (once_behind key_eq next ks) (once_grows next ks) (known_next known k)

pub among_once : (k : Key) (known xs : List Key) → is_among key_eq k xs ≡ true → is_among key_eq k (once_behind key_eq known xs) ≡ true
among_once k known [] e = absurd cc
among_once k known (x ∷ xs) e = go (key_eq k x) refl (among_once k (cond (is_among key_eq x known) known (known ++ x ∷ [])) xs) e where
  go : (b : Bool) → key_eq k x ≡ b → (is_among key_eq k xs ≡ true → is_among key_eq k (once_behind key_eq known (x ∷ xs)) ≡ true) → (b || is_among key_eq k xs) ≡ true → is_among key_eq k (once_behind key_eq known (x ∷ xs)) ≡ true
  go true h rest e = subst (λ z. is_among key_eq z (once_behind key_eq known (x ∷ xs)) ≡ true) (sym (key_is k x h)) (known_after known x xs)
  go false h rest e = rest e

pub place_grown : (k : Key) (known more : List Key) → is_among key_eq k known ≡ true → number_of (known ++ more) k ≡ number_of known k
place_grown k [] more e = absurd cc
place_grown k (x ∷ xs) more e = go (key_eq k x) (place_grown k xs more) e where
  go : (b : Bool) → (is_among key_eq k xs ≡ true → number_of (xs ++ more) k ≡ number_of xs k) → (b || is_among key_eq k xs) ≡ true → cond b 0 (suc (number_of (xs ++ more) k)) ≡ cond b 0 (suc (number_of xs k))
  go true rest e = refl
  go false rest e = ap suc (rest e)

-- a key stands at its number
pub at_number : (k : Key) (table : List Key) → is_among key_eq k table ≡ true → slice_get table (number_of table k) ≡ Some k
at_number k [] e = absurd cc
at_number k (x ∷ xs) e = go (key_eq k x) refl (at_number k xs) e where
  go : (b : Bool) → key_eq k x ≡ b → (is_among key_eq k xs ≡ true → slice_get xs (number_of xs k) ≡ Some k) → (b || is_among key_eq k xs) ≡ true → slice_get (x ∷ xs) (cond b 0 (suc (number_of xs k))) ≡ Some k
  go true h rest e = ap Some (sym (key_is k x h))
  go false h rest e = rest e

pub same_number : (a b : Key) (table : List Key) → is_among key_eq a table ≡ true → is_among key_eq b table ≡ true → number_of table a ≡ number_of table b → a ≡ b
same_number a b table x y e =
    let q : Some a ≡ Some b = sym (at_number a table x) ∙ (ap (slice_get table) e ∙ at_number b table y) in
    some_is a b q where
      some_is : (a b : Key) → Some a ≡ Some b → a ≡ b
      some_is a b e = cc

-- ---- a table takes all labels

pub narrow_among : (k : Key) (table : List Key) → are_narrow table ≡ true → is_among key_eq k table ≡ true → length k.sorts ≤ 4
narrow_among k [] narrow e = absurd cc
narrow_among k (x ∷ xs) narrow e = go (key_eq k x) refl (narrow_among k xs (and_second (leb (length x.sorts) 4) _ narrow)) e where
  go : (b : Bool) → key_eq k x ≡ b → (is_among key_eq k xs ≡ true → length k.sorts ≤ 4) → (b || is_among key_eq k xs) ≡ true → length k.sorts ≤ 4
  go true h rest e = subst (λ (z : Key). length z.sorts ≤ 4) (sym (key_is k x h)) (leb-true (length x.sorts) 4 (and_first (leb (length x.sorts) 4) _ narrow))
  go false h rest e = rest e
