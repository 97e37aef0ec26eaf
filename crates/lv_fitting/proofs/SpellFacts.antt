-- What holds of the items of a section: they are few, and their names are new.
use Rattle.std.proofs.Common.{◌≡◌, ℕ, zero, suc, ◌+◌, ◌≤◌, Bool, true, false, ◌&&◌, cond, List, [], ◌∷◌, ◌++◌, length, map, is_some, Some, refl, sym, ap, subst, ◌∙◌, arith}
use Rattle.std.proofs.lemmas.Bool.{eq-eqb}
use Rattle.std.proofs.lemmas.List.{append_assoc}
use Rattle.lv_system.specs.Names.{same_text, is_name, are_names, occurrences, each_stands_once}
use Rattle.lv_tree.specs.declared.tree.Tree.{Tree}
use Rattle.lv_grammar.specs.Known.{Entry, Known, what_is, named, is_new_name}
use Rattle.lv_grammar.specs.KnownNames.{texts, AreNew}
use Rattle.lv_grammar.specs.Sections.{Spell, none, one}
use Rattle.lv_grammar.proofs.SameTexts.{same_is, same_self}
use Rattle.lv_fitting.proofs.Tests.{and_first, and_second}
use Rattle.lv_fitting.proofs.Tests.{not_not}

append_none : {A : Type 0} (xs : List A) → xs ++ [] ≡ xs
append_none [] = refl
append_none (x ∷ xs) = ap (λ z. x ∷ z) (append_none xs)

-- ---- how many

pub few : {X : Type 0} {Is : Known → X → Tree → Type 0} {add : Known → X → Known} {room : ℕ} {c d : Known} {xs : List X} {ts : List Tree} → Spell Is add room c xs ts d → length xs ≤ room
few none = omega arith
few (one is rest) = let q = few rest in omega (arith, q)

-- ---- names

not_there : (es : List Entry) (text : List ℕ) → is_some (what_is es text) ≡ false → occurrences text (texts es) ≡ 0
not_there [] text e = refl
not_there (x ∷ xs) text e = go (same_text x.0 text) (not_there xs text) e where
  go : (b : Bool) → (is_some (what_is xs text) ≡ false → occurrences text (texts xs) ≡ 0) → is_some (cond b (Some x.1) (what_is xs text)) ≡ false → cond b 1 0 + occurrences text (texts xs) ≡ 0
  go true rest h = absurd cc
  go false rest h = let q = rest h in omega (arith, q)

module _ {X : Type 0} {Is : Known → X → Tree → Type 0} {add : Known → X → Known} (name : X → List ℕ) (names : (k : Known) (x : X) → texts (add k x).names ≡ texts k.names ++ name x ∷ [])
    (new : (k : Known) (x : X) (t : Tree) → Is k x t → is_new_name k (name x) ≡ true) where
  pub names_spelled : {room : ℕ} {c d : Known} {xs : List X} {ts : List Tree} → Spell Is add room c xs ts d → texts d.names ≡ texts c.names ++ map name xs
  names_spelled {c = c} none = sym (append_none (texts c.names))
  names_spelled {c = c} (one {x = x} {xs = xs} is rest) = names_spelled rest ∙ ap (λ z. z ++ map name xs) (names c x) ∙ append_assoc (texts c.names) (name x ∷ []) (map name xs)

  pub new_spelled : {room : ℕ} {c d : Known} {xs : List X} {ts : List Tree} → Spell Is add room c xs ts d → AreNew (texts c.names) (map name xs)
  unfolding named
  new_spelled none = tt
  new_spelled {c = c} (one {x = x} {xs = xs} {t = t} is rest) =
      let n = new c x t is in
      (and_first (is_name (name x)) _ n, not_there c.names (name x) (not_not _ (and_second (is_name (name x)) _ n)), subst (λ z. AreNew z (map name xs)) (names c x) (new_spelled rest))

pub new_both : (before xs ys : List (List ℕ)) → AreNew before xs → AreNew (before ++ xs) ys → AreNew before (xs ++ ys)
new_both before [] ys a b = subst (λ z. AreNew z ys) (append_none before) b
new_both before (x ∷ xs) ys a b = (a.0, a.1, new_both (before ++ x ∷ []) xs ys a.2 (subst (λ z. AreNew z ys) (sym (append_assoc before (x ∷ []) xs)) b))

-- names that are new one after the other stand once each

new_names : (before ns : List (List ℕ)) → AreNew before ns → are_names ns ≡ true
new_names before [] a = refl
new_names before (n ∷ ns) a = rw (a.0, new_names (before ++ n ∷ []) ns a.2) refl

occurrences_both : (name : List ℕ) (xs ys : List (List ℕ)) → occurrences name (xs ++ ys) ≡ occurrences name xs + occurrences name ys
occurrences_both name [] ys = omega arith
occurrences_both name (x ∷ xs) ys = let q = occurrences_both name xs ys in omega (arith, q)

differ : (a b : List ℕ) → same_text a b ≡ false → same_text b a ≡ false
differ a b e = go (same_text b a) refl where
  go : (c : Bool) → same_text b a ≡ c → c ≡ false
  go false h = refl
  go true h = let z : true ≡ false = sym (same_self a) ∙ subst (λ y. same_text a y ≡ false) (same_is b a h) e in absurd cc

-- a name that stands before new ones is none of them
never_again : (n : List ℕ) (before ns : List (List ℕ)) → 1 ≤ occurrences n before → AreNew before ns → occurrences n ns ≡ 0
never_again n before [] there a = refl
never_again n before (m ∷ ns) there a =
    let both = occurrences_both n before (m ∷ []) in
    let rest = never_again n (before ++ m ∷ []) ns (omega (arith, both, there)) a.2 in
    go (same_text m n) refl rest where
      go : (b : Bool) → same_text m n ≡ b → occurrences n ns ≡ 0 → cond b 1 0 + occurrences n ns ≡ 0
      go false h r = omega (arith, r)
      go true h r = let q = subst (λ z. occurrences z before ≡ 0) (same_is m n h) a.1 in absurd (omega (arith, q, there))

once_from : (before ns : List (List ℕ)) → AreNew before ns → each_stands_once ns (before ++ ns) ≡ true
once_from before [] a = refl
once_from before (n ∷ ns) a =
    let both = occurrences_both n before (n ∷ ns) in
    let end = occurrences_both n before (n ∷ []) in
    let self : occurrences n (n ∷ []) ≡ 1 = rw (same_self n) refl in
    let here : occurrences n (n ∷ ns) ≡ 1 + occurrences n ns = rw (same_self n) refl in
    let gone = never_again n (before ++ n ∷ []) ns (omega (arith, end, self)) a.2 in
    let old = a.1 in
    let count : occurrences n (before ++ n ∷ ns) ≡ 1 = omega (arith, both, here, gone, old) in
    let rest = subst (λ z. each_stands_once ns z ≡ true) (append_assoc before (n ∷ []) ns) (once_from (before ++ n ∷ []) ns a.2) in
    rw (eq-eqb (occurrences n (before ++ n ∷ ns)) 1 count, rest) refl

pub new_fit : (ns : List (List ℕ)) → AreNew [] ns → (are_names ns && each_stands_once ns ns) ≡ true
new_fit ns a = rw (new_names [] ns a, once_from [] ns a) refl
