-- Trees that spell structures, and what is read of them.
use Rattle.std.specs.Prelude.{◌≡◌, Ok}
use Rattle.lv_tree.specs.declared.tree.Tree.{Tree}
use Rattle.lv_formula.specs.declared.vocabulary.Vocabulary.{Vocabulary}
use Rattle.lv_formula.specs.Vocabulary as vocabularies
use Rattle.lv_struct.specs.Tables.{HasVocabulary, IsSound, Tables}
use Rattle.lv_system.specs.declared.parts.Parts.{Parts}
use Rattle.lv_grammar.specs.StructureLaws.{IsAlike}
use Rattle.lv_grammar.specs.Structures.{IsStructure}
use Rattle.lv_reading.specs.Structures.{structure_in}

-- the tree spells the structure of the vocabulary
pub record IsSpelledBy (p : Parts) (voc : Vocabulary) (w : Tables) (t : Tree) : Type 0 where
  pub written : IsStructure p voc w t
  pub sound : IsSound w
  pub vocabulary : HasVocabulary voc w

-- what is read is spelled
abbrev pub ReadIsSpelled : Type 0
ReadIsSpelled = (p : Parts) (voc : Vocabulary) (t : Tree) (w : Tables) → vocabularies.IsSound voc → structure_in p voc t ≡ Ok w → IsSpelledBy p voc w t

-- where a structure is spelled, there is no fault, and the same is read
abbrev pub SpelledIsRead : Type 0
SpelledIsRead = (p : Parts) (voc : Vocabulary) (t : Tree) (w : Tables) → vocabularies.IsSound voc → IsSpelledBy p voc w t
    → (v : Tables) × (structure_in p voc t ≡ Ok v) × IsAlike voc w v
