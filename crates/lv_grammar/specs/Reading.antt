-- Systems, read section by section.
use Rattle.std.specs.Prelude.{ℕ, Bool, false, not, ◌||◌, ltb, List, [], ◌∷◌, length, codes, Option, Some, None, Result, Ok, if◌then◌else◌}
use Rattle.lv_tree.specs.declared.tree.Tree.{Tree, out-Tree}
use Rattle.lv_tree.specs.declared.tree.Tree.TheOpen.{Tree-F, Word, Group}
use Rattle.lv_formula.specs.declared.formula.Formula.{Formula}
use Rattle.lv_formula.specs.declared.temporal.Temporal.{Temporal}
use Rattle.lv_system.specs.declared.parts.Parts.{Parts}
use Rattle.lv_system.specs.declared.parts.Sort.{Sort}
use Rattle.lv_system.specs.declared.parts.Symbol.{Symbol}
use Rattle.lv_system.specs.declared.parts.Action.{Action}
use Rattle.lv_system.specs.declared.parts.Fair.{Fair}
use Rattle.lv_system.specs.declared.parts.LabelDecl.{LabelDecl}
use Rattle.lv_system.specs.declared.parts.WitnessDecl.{WitnessDecl}
use Rattle.lv_system.specs.declared.parts.Invariant.{Invariant}
use Rattle.lv_system.specs.Names.{same_text}
use Rattle.lv_fault.specs.declared.fault.Kind.TheVariants.{Unexpected, Missing, TooMany}
use Rattle.lv_fault.specs.declared.fault.SyntaxFault.{SyntaxFault}
use Rattle.lv_fault.specs.Given.{◌>>=◌, fail, fail_if, next_of, word_in, headed, Headed}
use Rattle.lv_grammar.specs.Trees.{word_of}
use Rattle.lv_grammar.specs.declared.reading.Family.{Family}
use Rattle.lv_grammar.specs.declared.reading.Family.TheVariants as Fam
use Rattle.lv_grammar.specs.declared.reading.Role.{Role}
use Rattle.lv_grammar.specs.declared.reading.Role.TheVariants as R
use Rattle.lv_grammar.specs.WordKinds.{family_of}
use Rattle.lv_grammar.specs.Known.{Known}
use Rattle.lv_grammar.specs.Rules.{add_sort, add_symbol, add_nothing, add_action, add_fair, add_label, add_witness, add_property, add_invariant, known_first}
use Rattle.lv_grammar.specs.ReadFormulas.{lone_formula}
use Rattle.lv_grammar.specs.ReadItems.{sort_item, relation_item, constant_item, action_item, fair_item, label_item, witness_item, property_item, invariant_item}
use Rattle.lv_grammar.specs.Sections.{Kind, section}

-- ---- which trees are of a kind

abbrev pub first_word : List Tree → Option (List ℕ)
first_word [] = None
first_word (t ∷ ts) = word_of t

abbrev pub head_layer : Tree-F Tree → Option (List ℕ)
head_layer (Word at text) = None
head_layer (Group at end items) = first_word items

-- the word that the tree begins with, if it is a list that begins with one
abbrev pub head_word : Tree → Option (List ℕ)
head_word t = head_layer (out-Tree t)

abbrev pub is_word : List ℕ → Option (List ℕ) → Bool
is_word word None = false
is_word word (Some text) = same_text text word

abbrev pub begins_with : List ℕ → Tree → Bool
begins_with word t = is_word word (head_word t)

-- ---- kinds of items

-- items that begin with this word
abbrev pub kind_of : {X : Type 0} → List ℕ → (Known → Headed → Result X SyntaxFault) → (Known → X → Known) → Kind X
kind_of word item add = record { is = begins_with word; read = λ k t. headed t >>= item k; add = add }

abbrev pub lone_item : Role → Known → Headed → Result Formula SyntaxFault
lone_item role k h = lone_formula k role 58 [] h.end h.rest

-- relations and constants may be mixed
abbrev pub symbol_item : Known → Headed → Result Symbol SyntaxFault
symbol_item k h = if same_text h.word.text (codes "relation") then relation_item k h else constant_item k h

abbrev pub sort_kind : Kind Sort
sort_kind = kind_of (codes "sort") sort_item add_sort

abbrev pub symbol_kind : Kind Symbol
symbol_kind = record { is = λ t. begins_with (codes "relation") t || begins_with (codes "constant") t; read = λ k t. headed t >>= symbol_item k; add = add_symbol }

abbrev pub axiom_kind : Kind Formula
axiom_kind = kind_of (codes "axiom") (lone_item R.Axiom) add_nothing

abbrev pub init_kind : Kind Formula
init_kind = kind_of (codes "init") (lone_item R.State) add_nothing

abbrev pub action_kind : Kind Action
action_kind = kind_of (codes "action") action_item add_action

abbrev pub fair_kind : Kind Fair
fair_kind = kind_of (codes "fair") fair_item add_fair

abbrev pub label_kind : Kind LabelDecl
label_kind = kind_of (codes "label") label_item add_label

abbrev pub witness_kind : Kind WitnessDecl
witness_kind = kind_of (codes "witness") witness_item add_witness

-- at most one, and then exactly one
abbrev pub property_kind : Kind Temporal
property_kind = kind_of (codes "property") property_item add_property

abbrev pub invariant_kind : Kind Invariant
invariant_kind = kind_of (codes "invariant") invariant_item add_invariant

-- the word of an item of a system
unfoldable pub names_kind : List ℕ → Bool
names_kind text =
    same_text text (codes "sort") || same_text text (codes "relation") || same_text text (codes "constant") || same_text text (codes "axiom")
    || same_text text (codes "init") || same_text text (codes "action") || same_text text (codes "fair") || same_text text (codes "label")
    || same_text text (codes "witness") || same_text text (codes "property") || same_text text (codes "invariant")

-- the fault of a tree that no section took: an item out of its order, or none
unfoldable pub left_over : {X : Type 0} → Tree → Result X SyntaxFault
left_over t = do
  h ← headed t
  fail Unexpected (if names_kind h.word.text then h.at else h.word.at)

-- nothing is left
unfoldable pub none_left : List Tree → Result (Unit {0}) SyntaxFault
none_left [] = Ok tt
none_left (t ∷ ts) = left_over t

-- one property was read; else it is missing at the system's end, or something stands in its place
unfoldable pub the_one : ℕ → List Temporal → List Tree → Result Temporal SyntaxFault
the_one end (f ∷ fs) rest = Ok f
the_one end [] [] = fail Missing end
the_one end [] (t ∷ ts) = left_over t

-- the items of a system, kind by kind
unfoldable pub parts_of : List ℕ → ℕ → List Tree → Result Parts SyntaxFault
parts_of name end items = do
  a ← section sort_kind 16 (known_first name) items
  b ← section symbol_kind 256 a.known a.rest
  c ← section axiom_kind 64 b.known b.rest
  e ← section init_kind 64 c.known c.rest
  g ← section action_kind 32 e.known e.rest
  h ← section fair_kind 16 g.known g.rest
  i ← section label_kind 32 h.known h.rest
  j ← section witness_kind 16 i.known i.rest
  l ← section property_kind 1 j.known j.rest
  property ← the_one end l.items l.rest
  m ← section invariant_kind 256 l.known l.rest
  _ ← none_left m.rest
  Ok (record {
    name = name;
    sorts = a.items;
    symbols = b.items;
    axioms = c.items;
    inits = e.items;
    actions = g.items;
    fairs = h.items;
    labels = i.items;
    witnesses = j.items;
    property = property;
    invariants = m.items;
  })

abbrev pub system_name_by : ℕ → List ℕ → Family → Result (List ℕ) SyntaxFault
system_name_by at text Fam.Name = fail_if (ltb 48 (length text)) TooMany at >>= λ _. Ok text
system_name_by at text Fam.Frozen = fail Unexpected at
system_name_by at text Fam.Saved = fail Unexpected at
system_name_by at text Fam.Dotted = fail Unexpected at
system_name_by at text Fam.Variable = fail Unexpected at
system_name_by at text Fam.Other = fail Unexpected at

unfoldable pub system_name : Tree → Result (List ℕ) SyntaxFault
system_name t = do
  w ← word_in t
  system_name_by w.at w.text (family_of w.text)

-- (system NAME ITEM ..)
unfoldable pub system_of : Tree → Result Parts SyntaxFault
system_of t = do
  h ← headed t
  _ ← fail_if (not (same_text h.word.text (codes "system"))) Unexpected h.word.at
  a ← next_of h.end h.rest
  name ← system_name a.0
  parts_of name h.end a.1
