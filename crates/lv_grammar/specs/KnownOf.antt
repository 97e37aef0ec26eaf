-- What is known of a whole system, stage by stage, and that an entry is of it.
use Rattle.std.specs.Prelude.{◌≡◌, ℕ, List, [], ◌∷◌, slice_get, Some}
use Rattle.lv_formula.specs.declared.symbols.Sym.{Sym}
use Rattle.lv_system.specs.declared.parts.Parts.{Parts}
use Rattle.lv_system.specs.declared.parts.Sort.{Sort as SortItem}
use Rattle.lv_system.specs.declared.parts.Fair.{Fair as FairItem}
use Rattle.lv_system.specs.declared.parts.WitnessDecl.{WitnessDecl}
use Rattle.lv_labels.specs.declared.key.Key.{Key}
use Rattle.lv_labels.specs.Labels.{labels_of}
use Rattle.lv_grammar.specs.Words.{label_name}
use Rattle.lv_grammar.specs.declared.reading.Named.{Named}
use Rattle.lv_grammar.specs.declared.reading.Named.TheVariants.{System, Sort, Symbol, Action, Fair, Label, Witness, Invariant}
use Rattle.lv_grammar.specs.Known.{Entry, Known, Said, Relation, Constant}
use Rattle.lv_grammar.specs.Rules.{add_sort, add_symbol, known_first}

-- what was known, with these items
abbrev pub added : {C X : Type 0} → (C → X → C) → C → List X → C
added add c [] = c
added add c (x ∷ xs) = added add (add c x) xs

-- the system has by this name what it is to name
abbrev pub Right : Parts → List ℕ → Named → Type 0
Right p name (Sort n) = (s : SortItem) × (slice_get p.sorts n ≡ Some s) × (s.name ≡ name)
Right p name (Symbol n shape fixed) = slice_get p.symbols n ≡ Some (record { name = name; shape = shape; fixed = fixed })
Right p name (Fair n sorts) = (c : FairItem) × (slice_get p.fairs n ≡ Some c) × (c.name ≡ name) × (c.params ≡ sorts)
Right p name (Witness n sort) = (w : WitnessDecl) × (slice_get p.witnesses n ≡ Some w) × (w.name ≡ name) × (w.sort ≡ sort)
-- the first declaration of the label has the name
Right p name (Label n sorts) = (label_name p n ≡ Some name) × (key : Key) × (slice_get (labels_of p) n ≡ Some key) × (key.sorts ≡ sorts)
Right p name System = Unit {0}
Right p name Action = Unit {0}
Right p name Invariant = Unit {0}

abbrev pub AllRight : Parts → List Entry → Type 0
AllRight p [] = Unit {0}
AllRight p (e ∷ es) = Right p e.0 e.1 × AllRight p es

-- behind the sorts and the symbols
abbrev pub known_own : Parts → Known
known_own p = added add_symbol (added add_sort (known_first p.name) p.sorts) p.symbols

-- the symbol that is said
abbrev pub sym_of : Said → Sym
sym_of (Relation s sorts) = s
sym_of (Constant s sort) = s
