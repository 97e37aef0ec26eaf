-- The words that invariants may use beside those of labels.
use Rattle.std.specs.Prelude.{ℕ, suc, Bool, true, false, not, leb, List, [], ◌∷◌, ◌++◌, length, map}
use Rattle.lv_formula.specs.declared.symbols.SortId.{SortId}
use Rattle.lv_formula.specs.declared.symbols.Sym.{Sym}
use Rattle.lv_formula.specs.declared.symbols.Sym.TheVariants.{Own, Witness, Label, Frozen, Saved, Touched, Kept, Due, Copy, CopyLabel, Next, Param}
use Rattle.lv_formula.specs.declared.vocabulary.RelShape.{RelShape}
use Rattle.lv_formula.specs.declared.vocabulary.ConShape.{ConShape}
use Rattle.lv_formula.specs.declared.vocabulary.Vocabulary.{Vocabulary}
use Rattle.lv_system.specs.declared.parts.Parts.{Parts}
use Rattle.lv_system.specs.declared.parts.Sort.{Sort}
use Rattle.lv_system.specs.declared.parts.Symbol.{Symbol}
use Rattle.lv_system.specs.declared.parts.Fair.{Fair}
use Rattle.lv_system.specs.Vocabularies.{relations_from, constants_from, any_symbol, witnesses_from}

abbrev pub is_changing : Symbol → Bool
is_changing s = not s.fixed

-- a set of elements for each of the sorts, of which the first has the number n
abbrev pub sets_from : (SortId → Sym) → ℕ → List Sort → List RelShape
sets_from name n [] = []
sets_from name n (s ∷ ss) = record { sym = name (record { 0 = n }); sorts = record { 0 = n } ∷ [] } ∷ sets_from name (suc n) ss

-- a set of tuples for each condition of fairness
abbrev pub dues_from : ℕ → List Fair → List RelShape
dues_from n [] = []
dues_from n (c ∷ cs) = record { sym = Due n; sorts = c.params } ∷ dues_from (suc n) cs

abbrev pub marks : List RelShape
marks = record { sym = Frozen; sorts = [] } ∷ record { sym = Saved; sorts = [] } ∷ []

abbrev pub invariant_relations : Parts → List RelShape
invariant_relations p =
    relations_from any_symbol Own 0 p.symbols ++ (marks ++ (sets_from Touched 0 p.sorts ++ (sets_from Kept 0 p.sorts
    ++ (dues_from 0 p.fairs ++ relations_from is_changing Copy 0 p.symbols))))

abbrev pub invariant_constants : Parts → List ConShape
invariant_constants p =
    constants_from any_symbol Own 0 p.symbols ++ (witnesses_from 0 p.witnesses ++ constants_from is_changing Copy 0 p.symbols)

-- the own symbols, the witnesses, the two marks, a touched and a kept set for each sort, a due set for each condition of
-- fairness, and a copy of each changing symbol
abbrev pub invariant_vocabulary : Parts → Vocabulary
invariant_vocabulary p = record {
  sorts = length p.sorts;
  relations = invariant_relations p;
  constants = invariant_constants p;
  order = map (λ r. r.sym) (invariant_relations p) ++ map (λ c. c.sym) (invariant_constants p);
}

-- the relation is a label, its copy, or the due set of a label's condition, whose arguments only the table of labels tells
abbrev pub is_label_word : Parts → Sym → Bool
is_label_word p (Own n) = false
is_label_word p (Witness n) = false
is_label_word p (Label n) = true
is_label_word p Frozen = false
is_label_word p Saved = false
is_label_word p (Touched s) = false
is_label_word p (Kept s) = false
is_label_word p (Due n) = leb (length p.fairs) n
is_label_word p (Copy n) = false
is_label_word p (CopyLabel n) = true
is_label_word p (Next n) = false
is_label_word p (Param n) = false
