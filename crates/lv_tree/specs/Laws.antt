-- What holds of the definitions, whatever the bytes.
use Rattle.std.specs.Prelude.{◌≡◌, ◌↔◌, ℕ, List, None}
use Rattle.lv_tree.specs.declared.tree.Tree.{Tree}
use Rattle.lv_tree.specs.Spelling.{SpellsTree}
use Rattle.lv_tree.specs.Faults.{fault_of}

-- a text spells at most one tree
abbrev pub SpellsAtMostOne : Type 0
SpellsAtMostOne = (bytes : List ℕ) (t u : Tree) → SpellsTree bytes t → SpellsTree bytes u → t ≡ u

-- bytes spell a tree exactly where they have no fault
abbrev pub SpellsUnlessFault : Type 0
SpellsUnlessFault = (bytes : List ℕ) → ((t : Tree) × SpellsTree bytes t) ↔ (fault_of bytes ≡ None)
