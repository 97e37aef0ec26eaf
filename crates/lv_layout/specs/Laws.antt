-- What holds of what is shown, where some tree spells the system.
use Rattle.std.specs.Prelude.{◌≡◌, true}
use Rattle.lv_tree.specs.declared.tree.Tree.{Tree}
use Rattle.lv_tree.specs.Writing.{bare}
use Rattle.lv_system.specs.declared.parts.Parts.{Parts}
use Rattle.lv_grammar.specs.HaveWords.{invariants_have_words}
use Rattle.lv_grammar.specs.Layout.{shown_text}
use Rattle.lv_grammar.specs.LayoutLaws.{FormulasCanBeShown}
use Rattle.lv_grammar.specs.ShownSystems.{shown_system}
use Rattle.lv_grammar.specs.Spelling.{SpellsSystem, Spells}

-- where some tree spells the system, so does each that is the shown one but for places
abbrev pub ShownIsSpelled : Type 0
ShownIsSpelled = (p : Parts) (t u : Tree) → SpellsSystem p t → bare u ≡ bare (shown_system p) → SpellsSystem p u

-- where some tree spells the system, the symbols of its invariants have words
abbrev pub SpelledHasWords : Type 0
SpelledHasWords = (p : Parts) (t : Tree) → SpellsSystem p t → invariants_have_words p p.invariants ≡ true

-- where some tree spells the system, so do the bytes that are shown
abbrev pub ShownTextSpells : Type 0
ShownTextSpells = (p : Parts) (t : Tree) → SpellsSystem p t → Spells (shown_text p) p

-- where some tree spells the system, each of its formulas can be shown
abbrev pub SpelledCanBeShown : Type 0
SpelledCanBeShown = (p : Parts) (t : Tree) → SpellsSystem p t → FormulasCanBeShown p
