-- A system that is spelled is read.
use Rattle.std.proofs.Common.{◌≡◌, ℕ, Bool, true, false, ◌&&◌, ◌||◌, leb, Some, List, [], ◌∷◌, ◌++◌, length, codes, refl, sym, ap, subst, ◌∙◌}
use Rattle.std.proofs.lemmas.List.{append-nil}
use Rattle.lv_tree.specs.declared.tree.Tree.{Tree}
use Rattle.lv_system.specs.declared.parts.Parts.{Parts}
use Rattle.lv_system.specs.declared.parts.Shape.{Shape}
use Rattle.lv_system.specs.declared.parts.Symbol.{Symbol}
use Rattle.lv_system.specs.Names.{same_text, is_name, are_name_bytes, begins_small}
use Rattle.lv_labels.specs.Once.{is_among}
use Rattle.lv_grammar.specs.Grammar.{IsWord}
use Rattle.lv_grammar.specs.Known.{Known}
use Rattle.lv_grammar.specs.Sections.{section, Spell, none, one, Ends}
use Rattle.lv_grammar.specs.Rules.{Begins, IsShape, relation, constant, IsDeclared, add_property, known_first, IsSystem}
use Rattle.lv_grammar.specs.Reading.{head_word, is_word, begins_with, sort_kind, symbol_kind, axiom_kind, init_kind, action_kind, fair_kind, label_kind, witness_kind, property_kind, invariant_kind, none_left, the_one, parts_of, system_name, system_of}
use Rattle.lv_grammar.proofs.Steps.{done}
use Rattle.lv_grammar.proofs.SameTexts.{same_is, same_self}
use Rattle.lv_grammar.proofs.TreesAgain.{word_again}
use Rattle.lv_spelling.proofs.Declarations.{actions_agree, fairs_agree, invariants_agree}
use Rattle.lv_spelling.proofs.Heads.{begins_again, head_again}
use Rattle.lv_spelling.proofs.ItemLaw.{axioms_agree, inits_agree}
use Rattle.lv_spelling.proofs.Paths.{labels_agree, witnesses_agree, properties_agree}
use Rattle.lv_spelling.proofs.Symbols.{sorts_agree, symbols_agree}
use Rattle.lv_spelling.proofs.Tests.{not_long}
use Rattle.lv_spelling.proofs.WordKinds.{and_first, and_second, name_family}

-- ---- the system's name

name_again : (t : Tree) (name : List ℕ) → IsWord name t → is_name name ≡ true → system_name t ≡ done name
unfolding system_name
name_again t name is form =
    let w = word_again t name is in
    let size : leb (length name) 48 ≡ true = and_second (begins_small name && are_name_bytes name) _ (and_first (begins_small name && are_name_bytes name && leb (length name) 48) _ form) in
    rw (w.1, name_family name form, not_long (length name) size) refl

-- ---- what stands behind a section begins with another word

-- the tree begins with one of these words
abbrev HeadIs : List (List ℕ) → Tree → Type 0
HeadIs words t = (word : List ℕ) × (head_word t ≡ Some word) × (is_among same_text word words ≡ true)

abbrev Starts : List (List ℕ) → List Tree → Type 0
Starts words [] = Unit {0}
Starts words (t ∷ ts) = HeadIs words t

or_right : (a b : Bool) → b ≡ true → (a || b) ≡ true
or_right true b e = refl
or_right false b e = e

wider : (word : List ℕ) (words : List (List ℕ)) (ts : List Tree) → Starts words ts → Starts (word ∷ words) ts
wider word words [] s = tt
wider word words (t ∷ ts) s = (s.0, s.1, or_right (same_text s.0 word) (is_among same_text s.0 words) s.2)

first_is : (word : List ℕ) (words : List (List ℕ)) → is_among same_text word (word ∷ words) ≡ true
first_is word words = ap (λ b. b || is_among same_text word words) (same_self word)

-- a section in front of trees
starts_with : {X : Type 0} {Is : Known → X → Tree → Type 0} {add : Known → X → Known} {room : ℕ} {k d : Known} {xs : List X} {front : List Tree} (words : List (List ℕ)) (rest : List Tree)
    → Spell Is add room k xs front d → ((k : Known) (x : X) (t : Tree) → Is k x t → HeadIs words t) → Starts words rest → Starts words (front ++ rest)
starts_with words rest none heads s = s
starts_with words rest (one {k = k} {x = x} {t = t} is more) heads s = heads k x t is

not_among : (word text : List ℕ) (words : List (List ℕ)) → is_among same_text word words ≡ false → is_among same_text text words ≡ true → same_text text word ≡ false
not_among word text words out among = go (same_text text word) refl where
  go : (b : Bool) → same_text text word ≡ b → b ≡ false
  go false h = refl
  go true h = let z : true ≡ false = sym among ∙ ap (λ y. is_among same_text y words) (same_is text word h) ∙ out in absurd cc

other_word : (word : List ℕ) (words : List (List ℕ)) (t : Tree) → is_among same_text word words ≡ false → HeadIs words t → begins_with word t ≡ false
other_word word words t out s = ap (is_word word) s.1 ∙ not_among word s.0 words out s.2

ends : (word : List ℕ) (words : List (List ℕ)) (ts : List Tree) → is_among same_text word words ≡ false → Starts words ts → Ends (begins_with word) ts
ends word words [] out s = tt
ends word words (t ∷ ts) out s = other_word word words t out s

symbols_end : (words : List (List ℕ)) (ts : List Tree) → is_among same_text (codes "relation") words ≡ false → is_among same_text (codes "constant") words ≡ false → Starts words ts → Ends symbol_kind.is ts
symbols_end words [] a b s = tt
symbols_end words (t ∷ ts) a b s = rw (other_word (codes "relation") words t a s, other_word (codes "constant") words t b s) refl

one_head : (word : List ℕ) (words : List (List ℕ)) (items : List Tree) (t : Tree) → Begins word items t → HeadIs (word ∷ words) t
one_head word words items t b = (word, begins_again word items t b, first_is word words)

symbol_head : (words : List (List ℕ)) (s : Symbol) (k : Known) (t : Tree) → IsDeclared k s t → HeadIs (codes "relation" ∷ codes "constant" ∷ words) t
symbol_head words s k t is = go s.shape is.word is.shape is.list where
  go : (shape : Shape) (word : List ℕ) → IsShape k shape word is.a → Begins word (is.n ∷ is.a ∷ is.mark) t → HeadIs (codes "relation" ∷ codes "constant" ∷ words) t
  go shape word (relation items list each few) b = one_head (codes "relation") (codes "constant" ∷ words) (is.n ∷ is.a ∷ is.mark) t b
  go shape word (constant name) b = (codes "constant", begins_again (codes "constant") (is.n ∷ is.a ∷ is.mark) t b, or_right (same_text (codes "constant") (codes "relation")) (is_among same_text (codes "constant") (codes "constant" ∷ words)) (first_is (codes "constant") words))

-- ---- a system that is spelled is read

module _ (p : Parts) (t : Tree) (is : IsSystem p t) where
  abbrev after_property : List Tree
  after_property = is.invariant_trees

  abbrev after_witnesses : List Tree
  after_witnesses = is.property_tree ∷ is.invariant_trees

  abbrev after_labels : List Tree
  after_labels = is.witness_trees ++ after_witnesses

  abbrev after_fairs : List Tree
  after_fairs = is.label_trees ++ after_labels

  abbrev after_actions : List Tree
  after_actions = is.fair_trees ++ after_fairs

  abbrev after_inits : List Tree
  after_inits = is.action_trees ++ after_actions

  abbrev after_axioms : List Tree
  after_axioms = is.init_trees ++ after_inits

  abbrev after_symbols : List Tree
  after_symbols = is.axiom_trees ++ after_axioms

  abbrev after_sorts : List Tree
  after_sorts = is.symbol_trees ++ after_symbols

  -- ---- the words that may stand there

  abbrev words_invariants : List (List ℕ)
  words_invariants = codes "invariant" ∷ []

  abbrev words_property : List (List ℕ)
  words_property = codes "property" ∷ words_invariants

  abbrev words_witnesses : List (List ℕ)
  words_witnesses = codes "witness" ∷ words_property

  abbrev words_labels : List (List ℕ)
  words_labels = codes "label" ∷ words_witnesses

  abbrev words_fairs : List (List ℕ)
  words_fairs = codes "fair" ∷ words_labels

  abbrev words_actions : List (List ℕ)
  words_actions = codes "action" ∷ words_fairs

  abbrev words_inits : List (List ℕ)
  words_inits = codes "init" ∷ words_actions

  abbrev words_axioms : List (List ℕ)
  words_axioms = codes "axiom" ∷ words_inits

  abbrev words_symbols : List (List ℕ)
  words_symbols = codes "relation" ∷ codes "constant" ∷ words_axioms

  starts_invariants : Starts words_invariants after_property
  starts_invariants = subst (Starts words_invariants) (append-nil is.invariant_trees) (starts_with words_invariants [] is.invariants (λ k x u i. one_head (codes "invariant") [] (i.n ∷ i.a ∷ []) u i.list) tt)

  starts_property : Starts words_property after_witnesses
  starts_property = one_head (codes "property") words_invariants (is.property.a ∷ []) is.property_tree is.property.list

  starts_witnesses : Starts words_witnesses after_labels
  starts_witnesses = starts_with words_witnesses after_witnesses is.witnesses (λ k x u i. one_head (codes "witness") words_property (i.n ∷ i.pair ∷ i.a ∷ []) u i.list) (wider (codes "witness") words_property after_witnesses starts_property)

  starts_labels : Starts words_labels after_fairs
  starts_labels = starts_with words_labels after_labels is.labels (λ k x u i. one_head (codes "label") words_witnesses (i.n ∷ i.params ∷ i.a ∷ []) u i.list) (wider (codes "label") words_witnesses after_labels starts_witnesses)

  starts_fairs : Starts words_fairs after_actions
  starts_fairs = starts_with words_fairs after_fairs is.fairs (λ k x u i. one_head (codes "fair") words_labels (i.n ∷ i.params ∷ i.a ∷ []) u i.list) (wider (codes "fair") words_labels after_fairs starts_labels)

  starts_actions : Starts words_actions after_inits
  starts_actions = starts_with words_actions after_actions is.actions (λ k x u i. one_head (codes "action") words_fairs (i.n ∷ i.params ∷ i.guard ∷ i.changes) u i.list) (wider (codes "action") words_fairs after_actions starts_fairs)

  starts_inits : Starts words_inits after_axioms
  starts_inits = starts_with words_inits after_inits is.inits (λ k x u i. one_head (codes "init") words_actions (i.a ∷ []) u i.list) (wider (codes "init") words_actions after_inits starts_actions)

  starts_axioms : Starts words_axioms after_symbols
  starts_axioms = starts_with words_axioms after_axioms is.axioms (λ k x u i. one_head (codes "axiom") words_inits (i.a ∷ []) u i.list) (wider (codes "axiom") words_inits after_axioms starts_inits)

  starts_symbols : Starts words_symbols after_sorts
  starts_symbols =
      starts_with words_symbols after_symbols is.symbols (λ k x u i. symbol_head words_axioms x k u i)
      (wider (codes "relation") (codes "constant" ∷ words_axioms) after_symbols (wider (codes "constant") words_axioms after_symbols starts_axioms))

  -- ---- the sections

  read_sorts : section sort_kind 16 (known_first p.name) (is.sort_trees ++ after_sorts) ≡ done (record { known = is.with_sorts; items = p.sorts; rest = after_sorts })
  read_sorts = (sorts_agree 16 (known_first p.name) _ _).1 (record { front = is.sort_trees; whole = refl; items = is.sorts; ends = ends (codes "sort") words_symbols after_sorts refl starts_symbols })

  read_symbols : section symbol_kind 256 is.with_sorts after_sorts ≡ done (record { known = is.with_symbols; items = p.symbols; rest = after_symbols })
  read_symbols = (symbols_agree 256 is.with_sorts _ _).1 (record { front = is.symbol_trees; whole = refl; items = is.symbols; ends = symbols_end words_axioms after_symbols refl refl starts_axioms })

  read_axioms : section axiom_kind 64 is.with_symbols after_symbols ≡ done (record { known = is.with_symbols; items = p.axioms; rest = after_axioms })
  read_axioms = (axioms_agree 64 is.with_symbols _ _).1 (record { front = is.axiom_trees; whole = refl; items = is.axioms; ends = ends (codes "axiom") words_inits after_axioms refl starts_inits })

  read_inits : section init_kind 64 is.with_symbols after_axioms ≡ done (record { known = is.with_symbols; items = p.inits; rest = after_inits })
  read_inits = (inits_agree 64 is.with_symbols _ _).1 (record { front = is.init_trees; whole = refl; items = is.inits; ends = ends (codes "init") words_actions after_inits refl starts_actions })

  read_actions : section action_kind 32 is.with_symbols after_inits ≡ done (record { known = is.with_actions; items = p.actions; rest = after_actions })
  read_actions = (actions_agree 32 is.with_symbols _ _).1 (record { front = is.action_trees; whole = refl; items = is.actions; ends = ends (codes "action") words_fairs after_actions refl starts_fairs })

  read_fairs : section fair_kind 16 is.with_actions after_actions ≡ done (record { known = is.with_fairs; items = p.fairs; rest = after_fairs })
  read_fairs = (fairs_agree 16 is.with_actions _ _).1 (record { front = is.fair_trees; whole = refl; items = is.fairs; ends = ends (codes "fair") words_labels after_fairs refl starts_labels })

  read_labels : section label_kind 32 is.with_fairs after_fairs ≡ done (record { known = is.with_labels; items = p.labels; rest = after_labels })
  read_labels = (labels_agree 32 is.with_fairs _ _).1 (record { front = is.label_trees; whole = refl; items = is.labels; ends = ends (codes "label") words_witnesses after_labels refl starts_witnesses })

  read_witnesses : section witness_kind 16 is.with_labels after_labels ≡ done (record { known = is.with_witnesses; items = p.witnesses; rest = after_witnesses })
  read_witnesses = (witnesses_agree 16 is.with_labels _ _).1 (record { front = is.witness_trees; whole = refl; items = is.witnesses; ends = ends (codes "witness") words_property after_witnesses refl starts_property })

  read_property : section property_kind 1 is.with_witnesses after_witnesses ≡ done (record { known = add_property is.with_witnesses p.property; items = p.property ∷ []; rest = after_property })
  read_property = (properties_agree 1 is.with_witnesses _ _).1 (record { front = is.property_tree ∷ []; whole = refl; items = one is.property none; ends = ends (codes "property") words_invariants after_property refl starts_invariants })

  read_invariants : section invariant_kind 256 (add_property is.with_witnesses p.property) after_property ≡ done (record { known = is.with_all; items = p.invariants; rest = [] })
  read_invariants = (invariants_agree 256 (add_property is.with_witnesses p.property) _ _).1 (record { front = is.invariant_trees; whole = sym (append-nil is.invariant_trees); items = is.invariants; ends = tt })

  parts_read : (end : ℕ) → parts_of p.name end (is.sort_trees ++ after_sorts) ≡ done p
  unfolding parts_of the_one none_left
  parts_read end = rw (read_sorts, read_symbols, read_axioms, read_inits, read_actions, read_fairs, read_labels, read_witnesses, read_property, read_invariants) refl

  pub system_again : system_of t ≡ done p
  unfolding system_of
  system_again =
      let h = head_again (codes "system") (is.n ∷ (is.sort_trees ++ after_sorts)) t is.list in
      rw (h.is, name_again is.n p.name is.name is.named) (parts_read h.end)
