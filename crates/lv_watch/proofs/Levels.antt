-- The literals that rest on fewer than j decisions.
use Rattle.std.proofs.Common.{◌≡◌, ℕ, ◌<◌, ◌+◌, ◌≤◌, Bool, true, false, not, cond, List, ◌++◌, inl, inr, refl, sym, ◌∙◌, ap, subst, length, get_or}
use Rattle.std.proofs.Common.{set, Option, Some, None, arith}
use Rattle.std.specs.Prelude.{map}
use Rattle.std.proofs.lemmas.List.{get_or_past}
use Rattle.std.proofs.Math.ListN.{get_or-map, take, drop}
use Rattle.std.proofs.lemmas.List.Edits.{map_over_more}
use Rattle.std.proofs.lemmas.Bool.{cases_lt, lt-ltb, le-ltb}
use Rattle.lv_cnf.specs.declared.literal.Lit.{Lit}
use Rattle.lv_cnf.specs.Literals.{signed}
use Rattle.lv_cnf.specs.Propagation.{IsConsistent, IsUndecided}
use Rattle.lv_watch.specs.declared.trail.Assigned.{Assigned}
use Rattle.lv_watch.specs.Values.{value, is_held, held, keeps, before, Extends}

pub keeps_lt : (j : ℕ) (h : Assigned) → h.place < j → keeps j (Some h) ≡ Some h
keeps_lt j h lt = ap (λ (b : Bool). cond b (Some h) None) (lt-ltb h.place j lt)

pub keeps_le : (j : ℕ) (h : Assigned) → j ≤ h.place → keeps j (Some h) ≡ None
keeps_le j h le = ap (λ (b : Bool). cond b (Some h) None) (le-ltb h.place j le)

-- what is kept is there, and rests on fewer decisions
pub kept_is : (j : ℕ) (o : Option Assigned) (h : Assigned) → keeps j o ≡ Some h → (o ≡ Some h) × (h.place < j)
kept_is j None h e = cc
kept_is j (Some g) h e = elim (cases_lt g.place j) [
  | inl lt ↦ let same : Some g ≡ Some h = sym (keeps_lt j g lt) ∙ e in
      let is : g ≡ h = cc in (same, subst (λ (x : Assigned). x.place < j) is lt)
  | inr le ↦ let no' : None ≡ Some h = sym (keeps_le j g le) ∙ e in cc
]

pub keeps_twice : (j k : ℕ) (o : Option Assigned) → j ≤ k → keeps j (keeps k o) ≡ keeps j o
keeps_twice j k None le = refl
keeps_twice j k (Some h) le = elim (cases_lt h.place k) [
  | inl lt ↦ ap (keeps j) (keeps_lt k h lt)
  | inr ge ↦ let far : j ≤ h.place = omega arith in ap (keeps j) (keeps_le k h ge) ∙ sym (keeps_le j h far)
]

-- a literal that is held has a value of its sign
pub held_is : (p : Bool) (o : Option Assigned) → is_held p o ≡ true → (h : Assigned) × (o ≡ Some h) × (signed p h.positive ≡ true)
held_is p None e = cc
held_is p (Some h) e = (h, refl, e)

pub before_is : (values : List (Option Assigned)) (j : ℕ) (l : Lit) → before values j l ≡ true →
    (h : Assigned) × (value values l.var ≡ Some h) × (h.place < j) × (signed l.positive h.positive ≡ true)
before_is values j l e =
    let a = held_is l.positive (keeps j (value values l.var)) e in
    let b = kept_is j (value values l.var) a.0 a.1 in
    (a.0, b.0, b.1, a.2)

pub before_at : (values : List (Option Assigned)) (j : ℕ) (l : Lit) (h : Assigned) → value values l.var ≡ Some h → h.place < j →
    signed l.positive h.positive ≡ true → before values j l ≡ true
before_at values j l h is lt same =
    ap (λ (o : Option Assigned). is_held l.positive (keeps j o)) is ∙ ap (is_held l.positive) (keeps_lt j h lt) ∙ same

-- what rests on more decisions is undecided
pub above_undecided : (values : List (Option Assigned)) (j : ℕ) (l : Lit) (h : Assigned) → value values l.var ≡ Some h → j ≤ h.place →
    IsUndecided (before values j) l
above_undecided values j l h is le =
    let e : keeps j (value values l.var) ≡ None = ap (keeps j) is ∙ keeps_le j h le in
    (ap (is_held l.positive) e, ap (is_held (not l.positive)) e)

other_sign_not : (a b : Bool) → signed b a ≡ true → signed (not b) a ≡ false
other_sign_not true true e = refl
other_sign_not true false e = cc
other_sign_not false true e = cc
other_sign_not false false e = refl

pub is_held-not : (p : Bool) (o : Option Assigned) → is_held p o ≡ true → is_held (not p) o ≡ false
is_held-not p None e = cc
is_held-not p (Some h) e = other_sign_not h.positive p e

pub before-consistent : (values : List (Option Assigned)) (j : ℕ) → IsConsistent (before values j)
before-consistent values j l e = is_held-not l.positive (keeps j (value values l.var)) e

pub before-same : (old new : List (Option Assigned)) (j : ℕ) → ((v : ℕ) → keeps j (value new v) ≡ keeps j (value old v)) →
    (l : Lit) → before new j l ≡ before old j l
before-same old new j same l = ap (is_held l.positive) (same l.var)

pub before-extends : (place : ℕ) (old new : List (Option Assigned)) → Extends place old new → (j : ℕ) → j ≤ place →
    (l : Lit) → before new j l ≡ before old j l
before-extends place old new (len, each) j le = before-same old new j (λ v. elim (each v) [
  | inl stays ↦ ap (keeps j) stays
  | inr (was, h, is, at) ↦ let far : j ≤ h.place = omega arith in
      ap (keeps j) is ∙ keeps_le j h far ∙ sym (ap (keeps j) was)
])

pub value-map : (k : ℕ) (values : List (Option Assigned)) (v : ℕ) → value (map (keeps k) values) v ≡ keeps k (value values v)
value-map k values v = get_or-map (keeps k) values v None

pub before-map : (k : ℕ) (values : List (Option Assigned)) (j : ℕ) → j ≤ k → (l : Lit) → before (map (keeps k) values) j l ≡ before values j l
before-map k values j le = before-same values (map (keeps k) values) j (λ v. ap (keeps j) (value-map k values v) ∙ keeps_twice j k (value values v) le)

-- where all places are before j, the set is the whole
pub before-held : (values : List (Option Assigned)) (j : ℕ) → ((v : ℕ) (h : Assigned) → value values v ≡ Some h → h.place < j) →
    (l : Lit) → before values j l ≡ held values l
before-held values j low l = go (value values l.var) refl
  where
    go : (o : Option Assigned) → value values l.var ≡ o → before values j l ≡ held values l
    go None e = ap (λ (o : Option Assigned). is_held l.positive (keeps j o)) e ∙ sym (ap (is_held l.positive) e)
    go (Some h) e = ap (λ (o : Option Assigned). is_held l.positive (keeps j o)) e ∙ ap (is_held l.positive) (keeps_lt j h (low l.var h e)) ∙ sym
        (ap (is_held l.positive) e)

pub value_in_range : (values : List (Option Assigned)) (v : ℕ) (h : Assigned) → value values v ≡ Some h → v < length values
value_in_range values v h is = elim (cases_lt v (length values)) [
  | inl lt ↦ lt
  | inr past ↦ let none : value values v ≡ None = get_or_past values v None past in cc
]

pub map_kept_more : (place : ℕ) (xs ys : List (Option Assigned)) (i : ℕ) (x y : Option Assigned) → i < length xs →
    ys ≡ map (keeps place) (take i xs) ++ drop i xs → x ≡ get_or ys i x → y ≡ keeps place x →
    set ys i y ≡ map (keeps place) (take (i + 1) xs) ++ drop (i + 1) xs
map_kept_more place xs ys i x y lt e at is = rw is (map_over_more (keeps place) xs ys i x lt e at)

pub same_signs : (a b : Bool) → signed a b ≡ true → a ≡ b
same_signs true true e = refl
same_signs true false e = cc
same_signs false true e = cc
same_signs false false e = refl

pub signed_same : (a b : Bool) → b ≡ a → signed a b ≡ true
signed_same true true e = refl
signed_same true false e = cc
signed_same false true e = cc
signed_same false false e = refl

pub opposite : (a b : Bool) → signed (not a) b ≡ true → signed a b ≡ false
opposite true true e = cc
opposite true false e = refl
opposite false true e = refl
opposite false false e = cc
