-- What holds of structures that are shown.
use Rattle.std.specs.Prelude.{◌≡◌, ℕ, ◌≤◌, true, List, length, All, Option, Some, None}
use Rattle.lv_formula.specs.declared.symbols.SortId.{SortId}
use Rattle.lv_formula.specs.declared.symbols.Sym.{Sym}
use Rattle.lv_formula.specs.declared.vocabulary.Vocabulary.{Vocabulary}
use Rattle.lv_formula.specs.Vocabulary.{relation_in}
use Rattle.lv_struct.specs.Tables.{HasVocabulary, IsSound, Tables, holds_in, value_in}
use Rattle.lv_system.specs.declared.parts.Parts.{Parts}
use Rattle.lv_system.specs.Fits.{fits_parts}
use Rattle.lv_grammar.specs.HaveWords.{has_word}
use Rattle.lv_grammar.specs.ShownStructures.{shown_structure}
use Rattle.lv_grammar.specs.Structures.{SpellsStructure}

-- the vocabulary has the system's sorts, and each of its symbols has a word
pub record VocabularyHasWords (p : Parts) (voc : Vocabulary) : Type 0 where
  pub symbols : All (λ sym. has_word p sym ≡ true) voc.order
  pub sorts : voc.sorts ≡ length p.sorts

-- what can be shown of a system that fits: a structure of the vocabulary, with at most 256 elements in each sort
pub record StructureCanBeShown (p : Parts) (voc : Vocabulary) (w : Tables) : Type 0 where
  pub fits : fits_parts p ≡ true
  pub sound : IsSound w
  pub vocabulary : HasVocabulary voc w
  pub few : All (λ n. n ≤ 256) w.sizes
  pub words : VocabularyHasWords p voc

-- the text that is shown spells the structure
abbrev pub ShownStructureSpells : Type 0
ShownStructureSpells = (p : Parts) (voc : Vocabulary) (w : Tables) → StructureCanBeShown p voc w → SpellsStructure p voc (shown_structure p voc w) w

-- the same tuples of a relation, or else the same element of a constant
abbrev pub IsAlikeOf : Tables → Tables → Option (List SortId) → Sym → Type 0
IsAlikeOf w v None sym = value_in w sym ≡ value_in v sym
IsAlikeOf w v (Some sorts) sym = (tuple : List ℕ) → holds_in w sym tuple ≡ holds_in v sym tuple

-- the same sizes, and the same of each symbol of the vocabulary
pub record IsAlike (voc : Vocabulary) (w v : Tables) : Type 0 where
  pub sizes : w.sizes ≡ v.sizes
  pub symbols : All (λ sym. IsAlikeOf w v (relation_in voc.relations sym) sym) voc.order

-- a text spells one structure alone
abbrev pub SpellsOneStructure : Type 0
SpellsOneStructure = (p : Parts) (voc : Vocabulary) (bytes : List ℕ) (w v : Tables) → SpellsStructure p voc bytes w → SpellsStructure p voc bytes v → IsAlike voc w v
