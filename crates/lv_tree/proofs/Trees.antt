-- The tokens of a tree.
use Rattle.std.proofs.Common.{◌≡◌, ℕ, ◌+◌, ◌-◌, ◌<◌, ◌≤◌, Bool, true, false, ◌&&◌, ltb, IsTrue, List, [], ◌∷◌, ◌++◌, length, map, refl, sym, ap, subst, ◌∙◌, append_assoc, arith}
use Rattle.std.proofs.lemmas.List.{append-nil}
use Rattle.std.proofs.lemmas.Bool.{lt-ltb, ltb-true, and_parts}
use Rattle.lv_tree.specs.declared.tree.Tree.{Tree, Tree-F, roll-Tree, out-Tree, roll-out-Tree, map-Tree, fold-Tree, fold-roll-Tree, ind-Tree}
use Rattle.lv_tree.specs.declared.tree.Tree.TheOpen.{Word, Group}
use Rattle.lv_tree.specs.Spelling.{Token, Closes, tokens_step, tokens_of, tokens_of_all, is_text, fits_step, fits_in, all_fit_in}
use Rattle.lv_tree.specs.Faults.{is_empty}
use Rattle.lv_tree.proofs.Balance.{is_balanced}

pub tokens_roll : (x : Tree-F Tree) → tokens_of (roll-Tree x) ≡ tokens_step (map-Tree Tree (List Token) tokens_of x)
tokens_roll = fold-roll-Tree (List Token) tokens_step

pub fits_roll : (room : ℕ) (x : Tree-F Tree) → fits_in room (roll-Tree x) ≡ fits_step (map-Tree Tree (ℕ → Bool) (fold-Tree (ℕ → Bool) fits_step) x) room
fits_roll room x = ap (λ (f : ℕ → Bool). f room) (fold-roll-Tree (ℕ → Bool) fits_step x)

-- where a tree may stand and it fits, what follows its tokens is balanced exactly where the whole is
abbrev pub KeepsBalance : Tree → Type 0
KeepsBalance t = (room : ℕ) (o : List ℕ) (g : Bool) (ms : List Token) → fits_in room t ≡ true → room + length o ≤ 64 → is_empty o && g ≡ false → is_balanced o g (tokens_of t ++ ms) ≡ is_balanced o true ms

keeps_balance_all : (ts : List ((t : Tree) × KeepsBalance t)) (room : ℕ) (o : List ℕ) (ms : List Token) → IsTrue (all_fit_in room (map (λ e. e.0) ts)) → room + length o ≤ 64 → is_empty o ≡ false
    → is_balanced o true (tokens_of_all (map (λ e. e.0) ts) ++ ms) ≡ is_balanced o true ms
keeps_balance_all [] room o ms h le some = refl
keeps_balance_all (t ∷ ts) room o ms h le some =
    let p = and_parts (fits_in room t.0) (all_fit_in room (map (λ e. e.0) ts)) h in
    let e = append_assoc (tokens_of t.0) (tokens_of_all (map (λ e. e.0) ts)) ms in
    rw e (t.1 room o true (tokens_of_all (map (λ e. e.0) ts) ++ ms) p.0 le (rw some refl) ∙ keeps_balance_all ts room o ms p.1 le some)

keeps_balance_layer : (y : Tree-F ((t : Tree) × KeepsBalance t)) → KeepsBalance (roll-Tree (map-Tree ((t : Tree) × KeepsBalance t) Tree (λ e. e.0) y))
keeps_balance_layer (Word at text) = λ room o g ms h le n.
    let f : is_text text ≡ true = rw (fits_roll room (Word at text)) at h in
    rw (tokens_roll (Word at text), n, f) refl
keeps_balance_layer (Group at end ts) = λ room o g ms h le n.
    let items = map (λ (e : (t : Tree) × KeepsBalance t). e.0) ts in
    let f = rw (fits_roll room (Group at end items)) at h in
    let p = and_parts (ltb 0 room) (all_fit_in (room - 1) items) f in
    let lt : 0 < room = ltb-true 0 room p.0 in
    let inner = keeps_balance_all ts (room - 1) (at ∷ o) (Closes end ∷ ms) p.1 (omega (arith, le, lt)) refl in
    let e = append_assoc (tokens_of_all items) (Closes end ∷ []) ms in
    rw (tokens_roll (Group at end items), n, lt-ltb (length o) 64 (omega (arith, le, lt)), e) inner

pub keeps_balance : (t : Tree) → KeepsBalance t
keeps_balance = ind-Tree KeepsBalance (λ x y is. subst (λ (z : Tree-F Tree). KeepsBalance (roll-Tree z)) is (keeps_balance_layer y))

-- ---- no two trees have the same tokens

-- the tokens at the front tell the tree, whatever follows
abbrev pub IsOne : Tree → Type 0
IsOne t = (u : Tree) (x y : List Token) → tokens_of t ++ x ≡ tokens_of u ++ y → (t ≡ u) × (x ≡ y)

by_layer : (P : Tree → Type 0) → ((z : Tree-F Tree) → P (roll-Tree z)) → (u : Tree) → P u
by_layer P h u = subst P (roll-out-Tree u) (h (out-Tree u))

-- no tree's tokens begin with a closing bracket
not_closed : (end : ℕ) (x m : List Token) (u : Tree) → Closes end ∷ x ≡ tokens_of u ++ m → ⊥
not_closed end x m = by_layer (λ u. Closes end ∷ x ≡ tokens_of u ++ m → ⊥) (go end x m) where
  go : (end : ℕ) (x m : List Token) (z : Tree-F Tree) → Closes end ∷ x ≡ tokens_of (roll-Tree z) ++ m → ⊥
  go end x m (Word at text) h = let e = rw (tokens_roll (Word at text)) at h in absurd cc
  go end x m (Group at end' items) h = let e = rw (tokens_roll (Group at end' items)) at h in absurd cc

one_all : (ts : List ((t : Tree) × IsOne t)) (us : List Tree) (e f : ℕ) (x y : List Token) → tokens_of_all (map (λ e. e.0) ts) ++ Closes e ∷ x ≡ tokens_of_all us ++ Closes f ∷ y
    → (map (λ (e : (t : Tree) × IsOne t). e.0) ts ≡ us) × (e ≡ f) × (x ≡ y)
one_all [] [] e f x y h = (refl, cc, cc)
one_all [] (u ∷ us) e f x y h = absurd (not_closed e x (tokens_of_all us ++ Closes f ∷ y) u (h ∙ append_assoc (tokens_of u) (tokens_of_all us) (Closes f ∷ y)))
one_all (t ∷ ts) [] e f x y h = absurd (not_closed f y (tokens_of_all (map (λ e. e.0) ts) ++ Closes e ∷ x) t.0 (sym h ∙ append_assoc (tokens_of t.0) (tokens_of_all (map (λ e. e.0) ts)) (Closes e ∷ x)))
one_all (t ∷ ts) (u ∷ us) e f x y h =
    let ms = tokens_of_all (map (λ e. e.0) ts) in
    let a = t.1 u (ms ++ Closes e ∷ x) (tokens_of_all us ++ Closes f ∷ y) (sym (append_assoc (tokens_of t.0) ms (Closes e ∷ x)) ∙ h ∙ append_assoc (tokens_of u) (tokens_of_all us) (Closes f ∷ y)) in
    let b = one_all ts us e f x y a.1 in
    (cc, b.1, b.2)

one_layer : (y : Tree-F ((t : Tree) × IsOne t)) → IsOne (roll-Tree (map-Tree ((t : Tree) × IsOne t) Tree (λ e. e.0) y))
one_layer (Word at text) u x y = by_layer (λ u. tokens_of (roll-Tree (Word at text)) ++ x ≡ tokens_of u ++ y → (roll-Tree (Word at text) ≡ u) × (x ≡ y)) (go at text x y) u where
  go : (at : ℕ) (text : List ℕ) (x y : List Token) (z : Tree-F Tree) → tokens_of (roll-Tree (Word at text)) ++ x ≡ tokens_of (roll-Tree z) ++ y → (roll-Tree (Word at text) ≡ roll-Tree z) × (x ≡ y)
  go at text x y (Word at' text') h = let e = rw (tokens_roll (Word at text), tokens_roll (Word at' text')) at h in (cc, cc)
  go at text x y (Group at' end' items) h = let e = rw (tokens_roll (Word at text), tokens_roll (Group at' end' items)) at h in absurd cc
one_layer (Group at end ts) u x y = by_layer (λ u. tokens_of (roll-Tree (Group at end (map (λ e. e.0) ts))) ++ x ≡ tokens_of u ++ y → (roll-Tree (Group at end (map (λ e. e.0) ts)) ≡ u) × (x ≡ y)) (go at end ts x y) u where
  go : (at end : ℕ) (ts : List ((t : Tree) × IsOne t)) (x y : List Token) (z : Tree-F Tree) → tokens_of (roll-Tree (Group at end (map (λ e. e.0) ts))) ++ x ≡ tokens_of (roll-Tree z) ++ y
      → (roll-Tree (Group at end (map (λ e. e.0) ts)) ≡ roll-Tree z) × (x ≡ y)
  go at end ts x y (Word at' text') h = let e = rw (tokens_roll (Group at end (map (λ e. e.0) ts)), tokens_roll (Word at' text')) at h in absurd cc
  go at end ts x y (Group at' end' us) h =
      let e = rw (tokens_roll (Group at end (map (λ e. e.0) ts)), tokens_roll (Group at' end' us)) at h in
      let ms = tokens_of_all (map (λ e. e.0) ts) in
      let inner : ms ++ Closes end ∷ x ≡ tokens_of_all us ++ Closes end' ∷ y = sym (append_assoc ms (Closes end ∷ []) x) ∙ (cc) ∙ append_assoc (tokens_of_all us) (Closes end' ∷ []) y in
      let b = one_all ts us end end' x y inner in
      (cc, b.2)

one : (t : Tree) → IsOne t
one = ind-Tree IsOne (λ x y is. subst (λ (z : Tree-F Tree). IsOne (roll-Tree z)) is (one_layer y))

-- two trees with the same tokens are the same
pub one_tree : (t u : Tree) → tokens_of t ≡ tokens_of u → t ≡ u
one_tree t u h = (one t u [] [] (append-nil (tokens_of t) ∙ h ∙ sym (append-nil (tokens_of u)))).0
