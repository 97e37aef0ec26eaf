-- What is shown for a structure.
use Rattle.std.specs.Prelude.{ℕ, suc, List, [], ◌∷◌, ◌++◌, map, codes, decimal, filter, Option, Some, None}
use Rattle.lv_tree.specs.declared.tree.Tree.{Tree}
use Rattle.lv_formula.specs.declared.symbols.SortId.{SortId}
use Rattle.lv_formula.specs.declared.symbols.Sym.{Sym}
use Rattle.lv_formula.specs.declared.vocabulary.Vocabulary.{Vocabulary}
use Rattle.lv_formula.specs.Vocabulary.{relation_in}
use Rattle.lv_struct.specs.Tables.{Tables, holds_in, size_in, value_in}
use Rattle.lv_formula.specs.Tuples.{tuples_over}
use Rattle.lv_system.specs.declared.parts.Parts.{Parts}
use Rattle.lv_grammar.specs.Words.{sort_name, symbol_word}
use Rattle.lv_grammar.specs.ShownFormulas.{list, word}
use Rattle.lv_grammar.specs.Layout.{in_lines}

abbrev pub number : ℕ → Tree
number n = word (decimal n)

abbrev pub shown_size : Parts → SortId → ℕ → Tree
shown_size p s n = list (word (codes "size") ∷ word (sort_name p s) ∷ number n ∷ [])

-- one for each sort, of which the first has the number k
abbrev pub shown_sizes : Parts → ℕ → List ℕ → List Tree
shown_sizes p k [] = []
shown_sizes p k (n ∷ ns) = shown_size p (record { 0 = k }) n ∷ shown_sizes p (suc k) ns

abbrev pub shown_tuple : List ℕ → Tree
shown_tuple tuple = list (map number tuple)

-- the tuples of a relation, each once, in lexicographic order
abbrev pub tuples_shown : Tables → List SortId → Sym → List (List ℕ)
tuples_shown w sorts sym = filter (holds_in w sym) (tuples_over (size_in w) sorts)

abbrev pub shown_relation : Parts → Tables → List SortId → Sym → Tree
shown_relation p w sorts sym = list (word (codes "relation") ∷ word (symbol_word p sym) ∷ map shown_tuple (tuples_shown w sorts sym))

abbrev pub shown_constant : Parts → Tables → Sym → Tree
shown_constant p w sym = list (word (codes "constant") ∷ word (symbol_word p sym) ∷ number (value_in w sym) ∷ [])

-- of a relation with these sorts, or else of a constant
abbrev pub shown_entry_of : Parts → Tables → Option (List SortId) → Sym → Tree
shown_entry_of p w None sym = shown_constant p w sym
shown_entry_of p w (Some sorts) sym = shown_relation p w sorts sym

abbrev pub shown_entry : Parts → Vocabulary → Tables → Sym → Tree
shown_entry p voc w sym = shown_entry_of p w (relation_in voc.relations sym) sym

abbrev pub shown_parts : Parts → Vocabulary → Tables → List Tree
shown_parts p voc w = shown_sizes p 0 w.sizes ++ map (shown_entry p voc w) voc.order

-- all parts as one tree
abbrev pub structure_tree : Parts → Vocabulary → Tables → Tree
structure_tree p voc w = list (word (codes "structure") ∷ shown_parts p voc w)

-- `(structure`, each part on a line of its own, and then `)` and a newline
abbrev pub shown_structure : Parts → Vocabulary → Tables → List ℕ
shown_structure p voc w = codes "(structure" ++ (in_lines (shown_parts p voc w) ++ 41 ∷ 10 ∷ [])
