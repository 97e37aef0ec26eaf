-- The bytes of a system that is shown: its items on lines of their own.
use Rattle.std.specs.Prelude.{ℕ, List, [], ◌∷◌, ◌++◌, codes}
use Rattle.lv_tree.specs.declared.tree.Tree.{Tree}
use Rattle.lv_tree.specs.Writing.{written}
use Rattle.lv_system.specs.declared.parts.Parts.{Parts}
use Rattle.lv_grammar.specs.ShownSystems.{shown_items}

-- each tree behind a newline and two spaces
abbrev pub in_lines : List Tree → List ℕ
in_lines [] = []
in_lines (t ∷ ts) = 10 ∷ 32 ∷ 32 ∷ written t ++ in_lines ts

-- `(system NAME`, the items in lines, and then `)` and a newline
abbrev pub shown_text : Parts → List ℕ
shown_text p = codes "(system " ++ (p.name ++ (in_lines (shown_items p) ++ 41 ∷ 10 ∷ []))
