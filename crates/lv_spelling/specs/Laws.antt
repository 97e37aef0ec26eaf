-- What is read is what the grammar says, and what it says is read.
use Rattle.std.specs.Prelude.{◌≡◌, ◌↔◌, ℕ, List, [], codes, Ok}
use Rattle.lv_tree.specs.declared.tree.Tree.{Tree}
use Rattle.lv_formula.specs.declared.temporal.Temporal.{Temporal}
use Rattle.lv_system.specs.declared.parts.Parts.{Parts}
use Rattle.lv_grammar.specs.declared.reading.Role.{Role}
use Rattle.lv_grammar.specs.declared.reading.Role.TheVariants as R
use Rattle.lv_grammar.specs.Words.{Variable}
use Rattle.lv_grammar.specs.Known.{Known, Says, Relation}
use Rattle.lv_grammar.specs.ReadWords.{Predicate, relation_at}
use Rattle.lv_grammar.specs.ReadFormulas.{formula_of}
use Rattle.lv_grammar.specs.Reading.{sort_kind, symbol_kind, axiom_kind, init_kind, action_kind, fair_kind, label_kind, witness_kind, property_kind, invariant_kind, system_of}
use Rattle.lv_grammar.specs.Rules.{IsFormula, IsSort, IsDeclared, IsLone, IsAction, IsFair, IsLabel, IsWitness, IsProperty, IsInvariant}
use Rattle.lv_grammar.specs.Spelling.{SpellsSystem, Spells}
use Rattle.lv_grammar.specs.Sections.{Kind, Section, section, Spelled}

-- what a word is read as, it says
abbrev pub WordsSay : Type 0
WordsSay = (k : Known) (role : Role) (at : ℕ) (text : List ℕ) (r : Predicate) → (relation_at k role at text ≡ Ok r) ↔ Says k role text (Relation r.sym r.sorts)

-- a formula that is read is one by the rules
abbrev pub FormulasAreSpelled : Type 0
FormulasAreSpelled = (k : Known) (role : Role) (room iffs : ℕ) (vs : List Variable) (t : Tree) (f : Temporal) → (formula_of k role room iffs vs t ≡ Ok f) ↔ IsFormula k role room iffs vs f t

-- the sections of a kind
abbrev pub Agree : {X : Type 0} → Kind X → (Known → X → Tree → Type 0) → Type 0
Agree {X} kind Is = (room : ℕ) (k : Known) (ts : List Tree) (s : Section X) → (section kind room k ts ≡ Ok s) ↔ Spelled Is kind.add kind.is room k ts s

-- each section is read exactly where it is spelled
pub record SectionsAgree : Type 0 where
  pub sorts : Agree sort_kind IsSort
  pub symbols : Agree symbol_kind IsDeclared
  pub axioms : Agree axiom_kind (IsLone (codes "axiom") R.Axiom 58 [])
  pub inits : Agree init_kind (IsLone (codes "init") R.State 58 [])
  pub actions : Agree action_kind IsAction
  pub fairs : Agree fair_kind IsFair
  pub labels : Agree label_kind IsLabel
  pub witnesses : Agree witness_kind IsWitness
  pub property : Agree property_kind IsProperty
  pub invariants : Agree invariant_kind IsInvariant

-- a tree is read as a system exactly where it spells one
abbrev pub SystemsAreSpelled : Type 0
SystemsAreSpelled = (t : Tree) (p : Parts) → (system_of t ≡ Ok p) ↔ SpellsSystem p t

-- a text spells at most one system
abbrev pub SpellsAtMostOne : Type 0
SpellsAtMostOne = (bytes : List ℕ) (p q : Parts) → Spells bytes p → Spells bytes q → p ≡ q
