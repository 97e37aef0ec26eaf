-- What a tree is at its outermost, wherever it stands: a word, or a list.
use Rattle.std.specs.Prelude.{ℕ, List, Option, Some, None}
use Rattle.lv_tree.specs.declared.tree.Tree.{Tree, out-Tree}
use Rattle.lv_tree.specs.declared.tree.Tree.TheOpen.{Tree-F, Word, Group}

abbrev pub word_layer : Tree-F Tree → Option (List ℕ)
word_layer (Word at text) = Some text
word_layer (Group at end items) = None

-- the bytes of a word
abbrev pub word_of : Tree → Option (List ℕ)
word_of t = word_layer (out-Tree t)

abbrev pub items_layer : Tree-F Tree → Option (List Tree)
items_layer (Word at text) = None
items_layer (Group at end items) = Some items

-- the items of a list
abbrev pub items_of : Tree → Option (List Tree)
items_of t = items_layer (out-Tree t)
