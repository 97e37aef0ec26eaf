-- What is spelled fits, and each of its words says one symbol.
use Rattle.std.specs.Prelude.{◌≡◌, ◌≤◌, ℕ, true, List, length}
use Rattle.lv_tree.specs.declared.tree.Tree.{Tree}
use Rattle.lv_formula.specs.declared.temporal.Temporal.{Temporal}
use Rattle.lv_formula.specs.declared.vocabulary.Vocabulary.{Vocabulary}
use Rattle.lv_formula.specs.TemporalFits.{temporal_fits_in}
use Rattle.lv_system.specs.declared.parts.Parts.{Parts}
use Rattle.lv_system.specs.Fits.{fits_parts}
use Rattle.lv_system.specs.TemporalLimits.{temporal_lists_of, temporal_iffs_of}
use Rattle.lv_grammar.specs.declared.reading.Role.{Role}
use Rattle.lv_grammar.specs.LabelLimits.{labels_keep_limits}
use Rattle.lv_grammar.specs.Words.{Variable, symbol_word, is_spoken}
use Rattle.lv_grammar.specs.Known.{Known, Said, Says}
use Rattle.lv_grammar.specs.KnownOf.{AllRight, sym_of}
use Rattle.lv_grammar.specs.Agrees.{Agrees}
use Rattle.lv_grammar.specs.Rules.{sorts_of, IsFormula, IsSystem}

-- a formula by the rules fits where its words do, and keeps its limits
abbrev pub FormulasFit : Type 0
FormulasFit = (k : Known) (role : Role) (voc : Vocabulary) → Agrees k role voc → (room iffs : ℕ) (vs : List Variable) (f : Temporal) (t : Tree) → IsFormula k role room iffs vs f t
    → (temporal_fits_in voc (sorts_of vs) f ≡ true) × (temporal_iffs_of f ≤ iffs) × (temporal_lists_of f ≤ room)

-- where what names name is there in the system, the word that says a symbol is the symbol's word, and texts may use it
abbrev pub WordsOfSymbols : Type 0
WordsOfSymbols = (k : Known) (p : Parts) → AllRight p k.names → k.fairs ≡ length p.fairs → (role : Role) (text : List ℕ) (said : Said) → Says k role text said
    → (symbol_word p (sym_of said) ≡ text) × (is_spoken p (sym_of said) ≡ true)

-- the parts of a system that is spelled fit, and its labels keep their limits
abbrev pub SystemsFit : Type 0
SystemsFit = (p : Parts) (t : Tree) → IsSystem p t → (fits_parts p ≡ true) × (labels_keep_limits p ≡ true)
