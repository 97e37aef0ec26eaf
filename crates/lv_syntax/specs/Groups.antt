-- The sections of a system in groups, as the code reads them.
use Rattle.std.specs.Prelude.{ℕ, List, Result, Ok}
use Rattle.lv_tree.specs.declared.tree.Tree.{Tree}
use Rattle.lv_formula.specs.declared.formula.Formula.{Formula}
use Rattle.lv_formula.specs.declared.temporal.Temporal.{Temporal}
use Rattle.lv_system.specs.declared.parts.Sort.{Sort}
use Rattle.lv_system.specs.declared.parts.Symbol.{Symbol}
use Rattle.lv_system.specs.declared.parts.Action.{Action}
use Rattle.lv_system.specs.declared.parts.Fair.{Fair}
use Rattle.lv_system.specs.declared.parts.LabelDecl.{LabelDecl}
use Rattle.lv_system.specs.declared.parts.WitnessDecl.{WitnessDecl}
use Rattle.lv_system.specs.declared.parts.Invariant.{Invariant}
use Rattle.lv_system.specs.declared.parts.Parts.{Parts}
use Rattle.lv_fault.specs.declared.fault.SyntaxFault.{SyntaxFault}
use Rattle.lv_fault.specs.Given.{◌>>=◌}
use Rattle.lv_grammar.specs.Known.{Known}
use Rattle.lv_grammar.specs.Sections.{section}
use Rattle.lv_grammar.specs.Reading.{sort_kind, symbol_kind, axiom_kind, init_kind, action_kind, fair_kind, label_kind, witness_kind, property_kind, invariant_kind, the_one, none_left}
use Rattle.lv_grammar.specs.Rules.{known_first}
use Rattle.lv_syntax.specs.declared.system.Declared as code_declared
use Rattle.lv_syntax.specs.declared.system.Moving as code_moving
use Rattle.lv_syntax.specs.declared.system.Closing as code_closing

pub record Declared : Type 0 where
  pub sorts : List Sort
  pub symbols : List Symbol
  pub axioms : List Formula
  pub inits : List Formula
  pub known : Known
  pub rest : List Tree

abbrev pub declared_seen : Known → code_declared.Declared → Declared
declared_seen k d = record { sorts = d.sorts; symbols = d.symbols; axioms = d.axioms; inits = d.inits; known = k; rest = d.rest.now }

unfoldable pub declared_from : Known → List Tree → Result Declared SyntaxFault
declared_from k ts = do
  a ← section sort_kind 16 k ts
  b ← section symbol_kind 256 a.known a.rest
  c ← section axiom_kind 64 b.known b.rest
  e ← section init_kind 64 c.known c.rest
  Ok (record { sorts = a.items; symbols = b.items; axioms = c.items; inits = e.items; known = e.known; rest = e.rest })

pub record Moving : Type 0 where
  pub actions : List Action
  pub fairs : List Fair
  pub labels : List LabelDecl
  pub witnesses : List WitnessDecl
  pub known : Known
  pub rest : List Tree

abbrev pub moving_seen : Known → code_moving.Moving → Moving
moving_seen k m = record { actions = m.actions; fairs = m.fairs; labels = m.labels; witnesses = m.witnesses; known = k; rest = m.rest.now }

unfoldable pub moving_from : Known → List Tree → Result Moving SyntaxFault
moving_from k ts = do
  g ← section action_kind 32 k ts
  h ← section fair_kind 16 g.known g.rest
  i ← section label_kind 32 h.known h.rest
  j ← section witness_kind 16 i.known i.rest
  Ok (record { actions = g.items; fairs = h.items; labels = i.items; witnesses = j.items; known = j.known; rest = j.rest })

pub record Closing : Type 0 where
  pub property : Temporal
  pub invariants : List Invariant

abbrev pub closing_seen : code_closing.Closing → Closing
closing_seen c = record { property = c.property; invariants = c.invariants }

unfoldable pub closing_from : Known → ℕ → List Tree → Result Closing SyntaxFault
closing_from k end ts = do
  l ← section property_kind 1 k ts
  property ← the_one end l.items l.rest
  m ← section invariant_kind 256 l.known l.rest
  _ ← none_left m.rest
  Ok (record { property = property; invariants = m.items })

-- the parts that the groups have together
abbrev pub parts_with : List ℕ → Declared → Moving → Closing → Parts
parts_with name a b c = record {
  name = name;
  sorts = a.sorts;
  symbols = a.symbols;
  axioms = a.axioms;
  inits = a.inits;
  actions = b.actions;
  fairs = b.fairs;
  labels = b.labels;
  witnesses = b.witnesses;
  property = c.property;
  invariants = c.invariants;
}

unfoldable pub in_groups : List ℕ → ℕ → List Tree → Result Parts SyntaxFault
in_groups name end ts = do
  a ← declared_from (known_first name) ts
  b ← moving_from a.known a.rest
  c ← closing_from b.known end b.rest
  Ok (parts_with name a b c)
