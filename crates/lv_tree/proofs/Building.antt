-- Balanced tokens are those of a tree.
use Rattle.std.proofs.Common.{◌≡◌, ℕ, ◌-◌, lt-ltb, ltb-true, subst, Bool, true, false, ◌&&◌, ltb, List, [], ◌∷◌, ◌++◌, length, refl, append_assoc, arith}
use Rattle.std.proofs.lemmas.Bool.{and_parts}
use Rattle.lv_tree.specs.declared.tree.Tree.{Tree, roll-Tree}
use Rattle.lv_tree.specs.declared.tree.Tree.TheOpen.{Word, Group}
use Rattle.lv_tree.specs.Spelling.{Token, Opens, Closes, Spells, tokens_of, tokens_of_all, fits_in, all_fit_in, is_text}
use Rattle.lv_tree.proofs.Balance.{is_balanced}
use Rattle.lv_tree.proofs.Trees.{tokens_roll, fits_roll}

-- the tokens are the other items of an open list, its end, and what comes after it
pub record Rest (room : ℕ) (After : List Token → Type 0) (ts : List Token) : Type 0 where
  pub items : List Tree
  pub end : ℕ
  pub after : List Token
  pub parts : ts ≡ tokens_of_all items ++ Closes end ∷ after
  pub fits : all_fit_in room items ≡ true
  pub goes_on : After after

-- the tokens end each of the open lists, and then end
abbrev pub EndAll : List ℕ → List Token → Type 0
EndAll [] ts = ts ≡ []
EndAll (at ∷ o) ts = Rest (64 - length (at ∷ o)) (EndAll o) ts

-- a word before the other items
word_first : (at end : ℕ) (text : List ℕ) (ts after : List Token) (items : List Tree) → ts ≡ tokens_of_all items ++ Closes end ∷ after
    → Spells at text ∷ ts ≡ tokens_of_all (roll-Tree (Word at text) ∷ items) ++ Closes end ∷ after
word_first at end text ts after items e = rw (e, tokens_roll (Word at text)) refl

-- a list before the other items
group_first : (at last end : ℕ) (ts between after : List Token) (inner items : List Tree)
    → ts ≡ tokens_of_all inner ++ Closes last ∷ between → between ≡ tokens_of_all items ++ Closes end ∷ after
    → Opens at ∷ ts ≡ tokens_of_all (roll-Tree (Group at last inner) ∷ items) ++ Closes end ∷ after
group_first at last end ts between after inner items e f =
    let front = Opens at ∷ tokens_of_all inner in
    let others = tokens_of_all items in
    rw (e, f, tokens_roll (Group at last inner), append_assoc (front ++ Closes last ∷ []) others (Closes end ∷ after), append_assoc front (Closes last ∷ []) (others ++ Closes end ∷ after)) refl

-- a list fits where its items fit one level deeper
group_fits : (room at end : ℕ) (items : List Tree) → ltb 0 room ≡ true → all_fit_in (room - 1) items ≡ true → fits_in room (roll-Tree (Group at end items)) ≡ true
group_fits room at end items some h = rw (fits_roll room (Group at end items), some, h) refl

-- a word fits anywhere
word_fits : (room at : ℕ) (text : List ℕ) → is_text text ≡ true → fits_in room (roll-Tree (Word at text)) ≡ true
word_fits room at text h = rw (fits_roll room (Word at text), h) refl

both : (a b : Bool) → a ≡ true → b ≡ true → a && b ≡ true
both a b h k = rw (h, k) refl

-- balanced tokens end each list that is open
end_all : (ts : List Token) (o : List ℕ) → is_balanced o true ts ≡ true → EndAll o ts
end_all [] [] h = refl
end_all [] (a ∷ o) h = absurd cc
end_all (Opens at ∷ ts) [] h = absurd cc
end_all (Opens at ∷ ts) (a ∷ o) h =
    let p = and_parts (ltb (length (a ∷ o)) 64) (is_balanced (at ∷ a ∷ o) true ts) h in
    let inner = end_all ts (at ∷ a ∷ o) p.1 in
    let outer = inner.goes_on in
    let room : 64 - length (at ∷ a ∷ o) ≡ 64 - length (a ∷ o) - 1 = omega arith in
    let some : ltb 0 (64 - length (a ∷ o)) ≡ true = lt-ltb 0 (64 - length (a ∷ o)) (omega (arith, ltb-true (length (a ∷ o)) 64 p.0)) in
    let fits = group_fits (64 - length (a ∷ o)) at inner.end inner.items some (subst (λ (n : ℕ). all_fit_in n inner.items ≡ true) room inner.fits) in
    record {
      items = roll-Tree (Group at inner.end inner.items) ∷ outer.items;
      end = outer.end;
      after = outer.after;
      parts = group_first at inner.end outer.end ts inner.after outer.after inner.items outer.items inner.parts outer.parts;
      fits = both _ _ fits outer.fits;
      goes_on = outer.goes_on;
    }
end_all (Closes end ∷ ts) [] h = absurd cc
end_all (Closes end ∷ ts) (a ∷ o) h = record { items = []; end = end; after = ts; parts = refl; fits = refl; goes_on = end_all ts o h }
end_all (Spells at text ∷ ts) [] h = absurd cc
end_all (Spells at text ∷ ts) (a ∷ o) h =
    let p = and_parts (is_text text) (is_balanced (a ∷ o) true ts) h in
    let others = end_all ts (a ∷ o) p.1 in
    record {
      items = roll-Tree (Word at text) ∷ others.items;
      end = others.end;
      after = others.after;
      parts = word_first at others.end text ts others.after others.items others.parts;
      fits = both _ _ (word_fits (64 - length (a ∷ o)) at text p.0) others.fits;
      goes_on = others.goes_on;
    }

-- the tokens are those of a tree within the limits
pub record AreOfTree (ts : List Token) : Type 0 where
  pub tree : Tree
  pub fits : fits_in 64 tree ≡ true
  pub tokens : ts ≡ tokens_of tree

-- a list with nothing after it
list_tokens : (at end : ℕ) (ts after : List Token) (items : List Tree) → ts ≡ tokens_of_all items ++ Closes end ∷ after → after ≡ []
    → Opens at ∷ ts ≡ tokens_of (roll-Tree (Group at end items))
list_tokens at end ts after items e f = rw (e, f, tokens_roll (Group at end items)) refl

-- balanced tokens, with no list open and no tree begun, are those of a tree
pub tree_of : (ts : List Token) → is_balanced [] false ts ≡ true → AreOfTree ts
tree_of [] h = absurd cc
tree_of (Opens at ∷ ts) h =
    let r = end_all ts (at ∷ []) h in
    record {
      tree = roll-Tree (Group at r.end r.items);
      fits = group_fits 64 at r.end r.items refl r.fits;
      tokens = list_tokens at r.end ts r.after r.items r.parts r.goes_on;
    }
tree_of (Closes end ∷ ts) h = absurd cc
tree_of (Spells at text ∷ ts) h =
    let p = and_parts (is_text text) (is_balanced [] true ts) h in
    record {
      tree = roll-Tree (Word at text);
      fits = word_fits 64 at text p.0;
      tokens = rw (end_all ts [] p.1, tokens_roll (Word at text)) refl;
    }
