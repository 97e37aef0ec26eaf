-- What is written is spelled.
use Rattle.std.proofs.Common.{◌≡◌, ℕ, ◌+◌, ◌-◌, Bool, true, ◌&&◌, leb, ltb, List, [], ◌∷◌, ◌++◌, length, map, refl, sym, ap, subst, ◌∙◌, append_assoc, arith}
use Rattle.std.specs.List.{list_all}
use Rattle.std.specs.Prelude.{not}
use Rattle.std.proofs.lemmas.List.{append-nil, length-append}
use Rattle.std.proofs.lemmas.Bool.{and_parts}
use Rattle.lv_tree.specs.declared.tree.Tree.{Tree, Tree-F, roll-Tree, map-Tree, fold-roll-Tree, ind-Tree}
use Rattle.lv_tree.specs.declared.tree.Tree.TheOpen.{Word, Group}
use Rattle.lv_tree.specs.Bytes.{is_word_byte, goes_on_with}
use Rattle.lv_tree.specs.Spelling.{Token, Closes, Spells, Lexes, end, white, opens, closes, word, tokens_of, tokens_of_all, fits_in, all_fit_in, is_text, SpellsTree}
use Rattle.lv_tree.specs.Writing.{Put, spaced, written_step, written, written_behind, row, row_behind, put_step, put, placed, bare_step, bare}
use Rattle.lv_tree.proofs.Trees.{tokens_roll, fits_roll}

written_roll : (x : Tree-F Tree) → written (roll-Tree x) ≡ written_step (map-Tree Tree (List ℕ) written x)
written_roll = fold-roll-Tree (List ℕ) written_step

put_roll : (at : ℕ) (x : Tree-F Tree) → put (roll-Tree x) at ≡ put_step (map-Tree Tree (ℕ → Put) put x) at
put_roll at x = ap (λ (f : ℕ → Put). f at) (fold-roll-Tree (ℕ → Put) put_step x)

bare_roll : (x : Tree-F Tree) → bare (roll-Tree x) ≡ bare_step (map-Tree Tree Tree bare x)
bare_roll = fold-roll-Tree Tree bare_step

-- a word before these bytes ends before them
abbrev ends_word : List ℕ → Bool
ends_word rest = goes_on_with (λ c. not (is_word_byte c)) rest

-- what holds of a tree that is written from a place on
pub record OnLine (t : Tree) (at room : ℕ) : Type 0 where
  pub after : (put t at).after ≡ at + length (written t)
  pub fits : fits_in room (put t at).tree ≡ fits_in room t
  pub same : bare (put t at).tree ≡ bare t
  pub spells : (rest : List ℕ) (ms : List Token) → fits_in room t ≡ true → ends_word rest ≡ true → Lexes (at + length (written t)) rest ms → Lexes at (written t ++ rest) (tokens_of (put t at).tree ++ ms)

abbrev pub AlwaysOnLine : Tree → Type 0
AlwaysOnLine t = (at room : ℕ) → OnLine t at room

-- the same of trees, each behind a space
pub record OnLineBehind (ts : List Tree) (at room : ℕ) : Type 0 where
  pub after : (row_behind (map put ts) at).after ≡ at + length (written_behind ts)
  pub fits : all_fit_in room (row_behind (map put ts) at).trees ≡ all_fit_in room ts
  pub same : map bare (row_behind (map put ts) at).trees ≡ map bare ts
  pub spells : (rest : List ℕ) (ms : List Token) → all_fit_in room ts ≡ true → ends_word rest ≡ true → Lexes (at + length (written_behind ts)) rest ms
      → Lexes at (written_behind ts ++ rest) (tokens_of_all (row_behind (map put ts) at).trees ++ ms)

abbrev trees_of : List ((t : Tree) × AlwaysOnLine t) → List Tree
trees_of ts = map (λ e. e.0) ts

ends_behind : (ts : List Tree) (rest : List ℕ) → ends_word rest ≡ true → ends_word (written_behind ts ++ rest) ≡ true
ends_behind [] rest h = h
ends_behind (t ∷ ts) rest h = refl

on_line_behind : (ts : List ((t : Tree) × AlwaysOnLine t)) (at room : ℕ) → OnLineBehind (trees_of ts) at room
on_line_behind [] at room = record { after = omega arith; fits = refl; same = refl; spells = λ rest ms f e h. (let k : at + 0 ≡ at = omega arith in rw k at h) }
on_line_behind (t ∷ ts) at room =
    let first = t.1 (at + 1) room in
    let p = (put t.0 (at + 1)).after in
    let others = on_line_behind ts p room in
    let w = written t.0 in
    let v = written_behind (trees_of ts) in
    let place : p ≡ at + 1 + length w = first.after in
    let long : length (32 ∷ w ++ v) ≡ 1 + (length w + length v) = omega (arith, length-append w v) in
    record {
      after = others.after ∙ rw (place, long) (omega arith);
      fits = rw (first.fits, others.fits) refl;
      same = rw (first.same, others.same) refl;
      spells = λ rest ms f e h.
          let q = and_parts (fits_in room t.0) (all_fit_in room (trees_of ts)) f in
          let k : at + length (32 ∷ w ++ v) ≡ p + length v = omega (arith, place, long) in
          let tail = others.spells rest ms q.1 e (rw k at h) in
          let behind = tokens_of_all (row_behind (map put (trees_of ts)) p).trees in
          let head = first.spells (v ++ rest) (behind ++ ms) q.0 (ends_behind (trees_of ts) rest e) (subst (λ (z : ℕ). Lexes z (v ++ rest) (behind ++ ms)) place tail) in
          rw (append_assoc w v rest, append_assoc (tokens_of (put t.0 (at + 1)).tree) behind ms) (white refl head);
    }

-- the same of the items of a list
pub record OnLineInRow (ts : List Tree) (at room : ℕ) : Type 0 where
  pub after : (row (map put ts) at).after ≡ at + length (spaced (map written ts))
  pub fits : all_fit_in room (row (map put ts) at).trees ≡ all_fit_in room ts
  pub same : map bare (row (map put ts) at).trees ≡ map bare ts
  pub spells : (rest : List ℕ) (ms : List Token) → all_fit_in room ts ≡ true → ends_word rest ≡ true → Lexes (at + length (spaced (map written ts))) rest ms
      → Lexes at (spaced (map written ts) ++ rest) (tokens_of_all (row (map put ts) at).trees ++ ms)

on_line_in_row : (ts : List ((t : Tree) × AlwaysOnLine t)) (at room : ℕ) → OnLineInRow (trees_of ts) at room
on_line_in_row [] at room = record { after = omega arith; fits = refl; same = refl; spells = λ rest ms f e h. (let k : at + 0 ≡ at = omega arith in rw k at h) }
on_line_in_row (t ∷ ts) at room =
    let first = t.1 at room in
    let p = (put t.0 at).after in
    let others = on_line_behind ts p room in
    let w = written t.0 in
    let v = written_behind (trees_of ts) in
    let place : p ≡ at + length w = first.after in
    record {
      after = others.after ∙ rw (place, length-append w v) (omega arith);
      fits = rw (first.fits, others.fits) refl;
      same = rw (first.same, others.same) refl;
      spells = λ rest ms f e h.
          let q = and_parts (fits_in room t.0) (all_fit_in room (trees_of ts)) f in
          let k : at + length (w ++ v) ≡ p + length v = omega (arith, place, length-append w v) in
          let tail = others.spells rest ms q.1 e (rw k at h) in
          let behind = tokens_of_all (row_behind (map put (trees_of ts)) p).trees in
          let head = first.spells (v ++ rest) (behind ++ ms) q.0 (ends_behind (trees_of ts) rest e) (subst (λ (z : ℕ). Lexes z (v ++ rest) (behind ++ ms)) place tail) in
          rw (append_assoc w v rest, append_assoc (tokens_of (put t.0 at).tree) behind ms) head;
    }

word_on_line : (at room place : ℕ) (text rest : List ℕ) (ms : List Token) → is_text text ≡ true → ends_word rest ≡ true → Lexes (at + length text) rest ms → Lexes at (text ++ rest) (Spells at text ∷ ms)
word_on_line at room place [] rest ms f e h = absurd cc
word_on_line at room place (b ∷ bs) rest ms f e h = word b bs rest (and_parts (ltb 0 (length (b ∷ bs)) && leb (length (b ∷ bs)) 64) (list_all is_word_byte (b ∷ bs)) f).1 e h

on_line_layer : (y : Tree-F ((t : Tree) × AlwaysOnLine t)) → AlwaysOnLine (roll-Tree (map-Tree ((t : Tree) × AlwaysOnLine t) Tree (λ e. e.0) y))
on_line_layer (Word place text) = λ at room.
    let x = Word place text in
    record {
      after = rw (put_roll at x, written_roll x) refl;
      fits = rw (put_roll at x, fits_roll room x, fits_roll room (Word at text)) refl;
      same = rw (put_roll at x, bare_roll x, bare_roll (Word at text)) refl;
      spells = rw (put_roll at x, written_roll x, fits_roll room x, tokens_roll (Word at text)) (λ rest ms f e h. word_on_line at room place text rest ms f e h);
    }
on_line_layer (Group place last ts) = λ at room.
    let items = trees_of ts in
    let x = Group place last items in
    let inner = on_line_in_row ts (at + 1) (room - 1) in
    let r = row (map put items) (at + 1) in
    let line = spaced (map written items) in
    let y = Group at r.after r.trees in
    let long : length (40 ∷ line ++ 41 ∷ []) ≡ length line + 2 = omega (arith, length-append line (41 ∷ [])) in
    record {
      after = rw (put_roll at x, written_roll x, long) (omega (arith, inner.after));
      fits = rw (put_roll at x, fits_roll room x, fits_roll room y, inner.fits) refl;
      same = rw (put_roll at x, bare_roll x, bare_roll y, inner.same) refl;
      spells = rw (put_roll at x, written_roll x, fits_roll room x, tokens_roll y) (λ rest ms f e h.
          let q = and_parts (ltb 0 room) (all_fit_in (room - 1) items) f in
          let k : at + length (40 ∷ line ++ 41 ∷ []) ≡ at + 1 + length line + 1 = omega (arith, long) in
          let close : Lexes (at + 1 + length line) (41 ∷ rest) (Closes r.after ∷ ms) = subst (λ (z : ℕ). Lexes (at + 1 + length line) (41 ∷ rest) (Closes z ∷ ms)) (sym inner.after) (closes (rw k at h)) in
          let head = inner.spells (41 ∷ rest) (Closes r.after ∷ ms) q.1 refl close in
          rw (append_assoc line (41 ∷ []) rest, append_assoc (tokens_of_all r.trees) (Closes r.after ∷ []) ms) (opens head));
    }

-- each tree is written as it should be
pub on_line : (t : Tree) → AlwaysOnLine t
on_line = ind-Tree AlwaysOnLine (λ x y is. subst (λ (z : Tree-F Tree). AlwaysOnLine (roll-Tree z)) is (on_line_layer y))

-- the line spells the tree with the places that it has there
pub line_spells : (t : Tree) → fits_in 64 t ≡ true → SpellsTree (written t) (placed 0 t)
line_spells t f =
    let l = on_line t 0 64 in
    (l.fits ∙ f, rw (append-nil (written t), append-nil (tokens_of (put t 0).tree)) at (l.spells [] [] f refl end))

-- the places aside, that is the same tree
pub line_same : (t : Tree) → bare (placed 0 t) ≡ bare t
line_same t = (on_line t 0 64).same
