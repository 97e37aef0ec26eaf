-- What names name is there in the system.
use Rattle.std.proofs.Common.{◌≡◌, ℕ, zero, suc, ◌<◌, Bool, true, false, cond, ltb, List, [], ◌∷◌, ◌++◌, length, map, get_or, slice_get, Option, Some, None, refl, sym, ap, subst, ◌∙◌, arith, append_assoc}
use Rattle.std.proofs.lemmas.Bool.{lt-ltb}
use Rattle.lv_tree.specs.declared.tree.Tree.{Tree}
use Rattle.lv_system.specs.declared.parts.Parts.{Parts}
use Rattle.lv_system.specs.Names.{same_text}
use Rattle.lv_grammar.specs.declared.reading.Named.{Named}
use Rattle.lv_grammar.specs.declared.reading.Named.TheVariants as N
use Rattle.lv_grammar.specs.Known.{Entry, Known, what_is}
use Rattle.lv_grammar.specs.KnownOf.{Right, AllRight}
use Rattle.lv_grammar.specs.Sections.{Spell, none, one}
use Rattle.lv_grammar.proofs.SameTexts.{same_is}

-- ---- items at their places

pub at_length : {A : Type 0} (xs : List A) (x : A) (ys : List A) → slice_get (xs ++ x ∷ ys) (length xs) ≡ Some x
at_length [] x ys = refl
at_length (z ∷ zs) x ys = at_length zs x ys

pub one_more : {A : Type 0} (xs : List A) (x : A) → length (xs ++ x ∷ []) ≡ suc (length xs)
one_more [] x = refl
one_more (y ∷ ys) x = ap suc (one_more ys x)

within : {A : Type 0} (xs : List A) (n : ℕ) (x : A) → slice_get xs n ≡ Some x → n < length xs
within [] n x e = absurd cc
within (z ∷ zs) zero x e = omega arith
within (z ∷ zs) (suc n) x e = let q = within zs n x e in omega (arith, q)

pub below : {A : Type 0} (xs : List A) (n : ℕ) (x : A) → slice_get xs n ≡ Some x → ltb n (length xs) ≡ true
below xs n x e = lt-ltb n (length xs) (within xs n x e)

pub name_there : {A : Type 0} (name : A → List ℕ) (xs : List A) (n : ℕ) (x : A) → slice_get xs n ≡ Some x → get_or (map name xs) n [] ≡ name x
name_there name [] n x e = absurd cc
name_there name (z ∷ zs) zero x e = let q : z ≡ x = cc in ap name q
name_there name (z ∷ zs) (suc n) x e = name_there name zs n x e

pub item_there : {A : Type 0} (xs : List A) (n : ℕ) (x d : A) → slice_get xs n ≡ Some x → get_or xs n d ≡ x
item_there [] n x d e = absurd cc
item_there (z ∷ zs) zero x d e = cc
item_there (z ∷ zs) (suc n) x d e = item_there zs n x d e

-- ---- entries

pub right_behind : (p : Parts) (es : List Entry) (name : List ℕ) (what : Named) → AllRight p es → Right p name what → AllRight p (es ++ (name, what) ∷ [])
right_behind p [] name what a r = (r, tt)
right_behind p (x ∷ xs) name what a r = (a.0, right_behind p xs name what a.1 r)

pub what_right : (p : Parts) (es : List Entry) (text : List ℕ) (w : Named) → AllRight p es → what_is es text ≡ Some w → Right p text w
what_right p [] text w a e = absurd cc
what_right p (x ∷ xs) text w a e = go (same_text x.0 text) refl (what_right p xs text w a.1) e where
  go : (b : Bool) → same_text x.0 text ≡ b → (what_is xs text ≡ Some w → Right p text w) → cond b (Some x.1) (what_is xs text) ≡ Some w → Right p text w
  go true h rest q = let z : x.1 ≡ w = cc in subst (λ n. Right p n w) (same_is x.0 text h) (subst (Right p x.0) z a.0)
  go false h rest q = rest q

-- the witness is one of the first so many
abbrev pub IsEarly : ℕ → Named → Type 0
IsEarly n (N.Witness m sort) = m < n
IsEarly n N.System = Unit {0}
IsEarly n (N.Sort m) = Unit {0}
IsEarly n (N.Symbol m shape fixed) = Unit {0}
IsEarly n N.Action = Unit {0}
IsEarly n (N.Fair m sorts) = Unit {0}
IsEarly n (N.Label m sorts) = Unit {0}
IsEarly n N.Invariant = Unit {0}

abbrev pub AreEarly : ℕ → List Entry → Type 0
AreEarly n [] = Unit {0}
AreEarly n (e ∷ es) = IsEarly n e.1 × AreEarly n es

pub early_behind : (n : ℕ) (es : List Entry) (name : List ℕ) (what : Named) → AreEarly n es → IsEarly n what → AreEarly n (es ++ (name, what) ∷ [])
early_behind n [] name what a b = (b, tt)
early_behind n (x ∷ xs) name what a b = (a.0, early_behind n xs name what a.1 b)

later : (n : ℕ) (what : Named) → IsEarly n what → IsEarly (suc n) what
later n (N.Witness m sort) lt = omega (arith, lt)
later n N.System a = tt
later n (N.Sort m) a = tt
later n (N.Symbol m shape fixed) a = tt
later n N.Action a = tt
later n (N.Fair m sorts) a = tt
later n (N.Label m sorts) a = tt
later n N.Invariant a = tt

pub all_later : (n : ℕ) (es : List Entry) → AreEarly n es → AreEarly (suc n) es
all_later n [] a = tt
all_later n (e ∷ es) a = (later n e.1 a.0, all_later n es a.1)

pub what_early : (n : ℕ) (es : List Entry) (text : List ℕ) (w : Named) → AreEarly n es → what_is es text ≡ Some w → IsEarly n w
what_early n [] text w a e = absurd cc
what_early n (x ∷ xs) text w a e = go (same_text x.0 text) (what_early n xs text w a.1) e where
  go : (b : Bool) → (what_is xs text ≡ Some w → IsEarly n w) → cond b (Some x.1) (what_is xs text) ≡ Some w → IsEarly n w
  go true rest q = let z : x.1 ≡ w = cc in subst (IsEarly n) z a.0
  go false rest q = rest q

-- ---- along a section: what holds of what is known before an item, of the item, and behind it

abbrev pub Along : {X : Type 0} → (List X → X → Type 0) → List X → List X → Type 0
Along P front [] = Unit {0}
Along P front (x ∷ xs) = P front x × Along P (front ++ x ∷ []) xs

module _ {X : Type 0} {Is : Known → X → Tree → Type 0} {add : Known → X → Known} (whole : List X) (At : List X → Known → Type 0) (P : List X → X → Type 0)
    (step : (front rest : List X) (k : Known) (x : X) (t : Tree) → whole ≡ front ++ x ∷ rest → At front k → Is k x t → P front x × At (front ++ x ∷ []) (add k x)) where
  pub along : {room : ℕ} {k d : Known} {xs : List X} {ts : List Tree} → Spell Is add room k xs ts d → (front : List X) → whole ≡ front ++ xs → At front k → Along P front xs × At whole d
  along {k = k} none front e a = (tt, subst (λ z. At z k) (sym (e ∙ append_none front)) a) where
    append_none : (ys : List X) → ys ++ [] ≡ ys
    append_none [] = refl
    append_none (y ∷ ys) = ap (λ z. y ∷ z) (append_none ys)
  along {k = k} (one {x = x} {xs = xs} {t = t} is more) front e a =
      let now = step front xs k x t e a is in
      let rest = along more (front ++ x ∷ []) (e ∙ sym (append_assoc front (x ∷ []) xs)) now.1 in
      ((now.0, rest.0), rest.1)
