-- What the text of a countermodel spells.
use Rattle.std.specs.Prelude.{◌≡◌, ℕ, ◌≤◌, true, length, All}
use Rattle.lv_struct.specs.Tables.{HasVocabulary, IsSound, Tables}
use Rattle.lv_system.specs.declared.parts.Parts.{Parts}
use Rattle.lv_system.specs.Fits.{fits_parts}
use Rattle.lv_labels.specs.declared.which.Which.{Which}
use Rattle.lv_labels.specs.Labels.{labels_of}
use Rattle.lv_labels.specs.Obligations.{vocabulary_of}
use Rattle.lv_labels.specs.Problem.{problem_of}
use Rattle.lv_grammar.specs.ShownStructures.{shown_structure}
use Rattle.lv_grammar.specs.StructureLaws.{VocabularyHasWords}
use Rattle.lv_grammar.specs.Structures.{SpellsStructure}
use Rattle.lv_report.specs.Texts.{vocabulary_at}

-- the symbols of each obligation's vocabulary have words, where the parts fit and have at most 32 labels
abbrev pub ObligationsHaveWords : Type 0
ObligationsHaveWords = (p : Parts) → fits_parts p ≡ true → length (labels_of p) ≤ 32 → (which : Which) → VocabularyHasWords p (vocabulary_of (problem_of p) which)

-- a structure of an obligation's vocabulary, with at most 256 elements in each sort, is spelled by the text that is shown for it
abbrev pub CountermodelsAreSpelled : Type 0
CountermodelsAreSpelled = (p : Parts) → fits_parts p ≡ true → length (labels_of p) ≤ 32
    → (index : ℕ) (w : Tables) → IsSound w → HasVocabulary (vocabulary_at p index) w → All (λ n. n ≤ 256) w.sizes
    → SpellsStructure p (vocabulary_at p index) (shown_structure p (vocabulary_at p index) w) w
