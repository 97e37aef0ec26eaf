-- A tree on one line.
use Rattle.std.specs.Prelude.{ℕ, ◌+◌, List, [], ◌∷◌, ◌++◌, length, map}
use Rattle.lv_tree.specs.declared.tree.Tree.{Tree, Tree-F, roll-Tree, fold-Tree}
use Rattle.lv_tree.specs.declared.tree.Tree.TheOpen.{Word, Group}

-- ---- the bytes of the line

-- each text behind a space
abbrev pub behind_spaces : List (List ℕ) → List ℕ
behind_spaces [] = []
behind_spaces (x ∷ xs) = 32 ∷ x ++ behind_spaces xs

-- the texts, with a space between two of them
abbrev pub spaced : List (List ℕ) → List ℕ
spaced [] = []
spaced (x ∷ xs) = x ++ behind_spaces xs

-- the bytes of a tree, from those of its items
abbrev pub written_step : Tree-F (List ℕ) → List ℕ
written_step (Word at text) = text
written_step (Group at end items) = 40 ∷ spaced items ++ 41 ∷ []

-- the bytes of a tree
abbrev pub written : Tree → List ℕ
written = fold-Tree (List ℕ) written_step

-- the bytes of the items of a list
abbrev pub written_all : List Tree → List ℕ
written_all trees = spaced (map written trees)

-- the bytes of the items behind the first one
abbrev pub written_behind : List Tree → List ℕ
written_behind trees = behind_spaces (map written trees)

-- ---- the places on the line

-- a tree with its places on the line, and the place behind it
pub record Put : Type 0 where
  pub tree : Tree
  pub after : ℕ

-- trees with their places on the line, and the place behind the last one
pub record Row : Type 0 where
  pub trees : List Tree
  pub after : ℕ

abbrev pub and_then : Put → Row → Row
and_then p r = record { trees = p.tree ∷ r.trees; after = r.after }

-- each tree behind a space
abbrev pub row_behind : List (ℕ → Put) → ℕ → Row
row_behind [] at = record { trees = []; after = at }
row_behind (p ∷ ps) at = and_then (p (at + 1)) (row_behind ps (p (at + 1)).after)

-- the trees, with a space between two of them
abbrev pub row : List (ℕ → Put) → ℕ → Row
row [] at = record { trees = []; after = at }
row (p ∷ ps) at = and_then (p at) (row_behind ps (p at).after)

abbrev pub group_from : ℕ → Row → Put
group_from at r = record { tree = roll-Tree (Group at r.after r.trees); after = r.after + 1 }

abbrev pub put_step : Tree-F (ℕ → Put) → ℕ → Put
put_step (Word at' text) at = record { tree = roll-Tree (Word at text); after = at + length text }
put_step (Group at' end items) at = group_from at (row items (at + 1))

-- a tree that is written from a place on
abbrev pub put : Tree → ℕ → Put
put = fold-Tree (ℕ → Put) put_step

-- a tree with the places that it has when it is written from this place on
abbrev pub placed : ℕ → Tree → Tree
placed at tree = (put tree at).tree

-- ---- trees without places

abbrev pub bare_step : Tree-F Tree → Tree
bare_step (Word at text) = roll-Tree (Word 0 text)
bare_step (Group at end items) = roll-Tree (Group 0 0 items)

-- a tree with all its places set to 0
abbrev pub bare : Tree → Tree
bare = fold-Tree Tree bare_step
