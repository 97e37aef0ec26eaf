-- What `proved` says of a text, in the words of runs alone; and the laws that give it.
use Rattle.std.specs.Prelude.{◌≡◌, ◌≤◌, ℕ, true, List}
use Rattle.lv_tree.specs.declared.tree.Tree.{Tree}
use Rattle.lv_system.specs.declared.parts.Parts.{Parts}
use Rattle.lv_system.specs.Lasso.{Meets}
use Rattle.lv_chain.specs.Chain.{chain_of}
use Rattle.lv_labels.specs.Positions.{Bounded}
use Rattle.lv_grammar.specs.LabelLimits.{labels_keep_limits}
use Rattle.lv_grammar.specs.Spelling.{Spells, SpellsSystem}
use Rattle.lv_labels.specs.Obligations.{AreValid, InvariantsFit}

-- On each lasso run of the system, of structures of any sizes, whose loop is fair, the property holds at the start; and no
-- labelled run of the negated property has, after a first round, more rounds than the elements touched at its end have
-- valuations.
pub record HoldsAtAllSizes (p : Parts) : Type 0 where
  pub meets : Meets p
  pub bounded : Bounded p

-- the bytes spell one system, and this holds of it
pub record IsProved (bytes : List ℕ) : Type 0 where
  pub system : Parts
  pub spells : Spells bytes system
  pub one : (other : Parts) → Spells bytes other → other ≡ system
  pub holds : HoldsAtAllSizes system

-- ---- the laws

abbrev pub InvariantsStand : Type 0
InvariantsStand = (p : Parts) → labels_keep_limits p ≡ true → InvariantsFit p

abbrev pub SpelledInvariantsStand : Type 0
SpelledInvariantsStand = (p : Parts) (tree : Tree) → SpellsSystem p tree → InvariantsFit p

-- it holds of each system that a tree spells and of which all obligations are valid
abbrev pub ValidSystemsHold : Type 0
ValidSystemsHold = (p : Parts) (tree : Tree) → SpellsSystem p tree → AreValid p → HoldsAtAllSizes p

-- and of each that bytes spell
abbrev pub ValidTextsHold : Type 0
ValidTextsHold = (bytes : List ℕ) (p : Parts) → Spells bytes p → AreValid p → HoldsAtAllSizes p

-- so bytes are proved that spell one system, if all obligations of it are valid
abbrev pub ValidTextsAreProved : Type 0
ValidTextsAreProved = (bytes : List ℕ) (p : Parts) → Spells bytes p → ((other : Parts) → Spells bytes other → other ≡ p) → AreValid p
    → IsProved bytes

-- the chains of 2 to 16 places keep the limits on labels
abbrev pub ChainsKeepLimits : Type 0
ChainsKeepLimits = (places : ℕ) → 2 ≤ places → places ≤ 16 → labels_keep_limits (chain_of places) ≡ true

-- and it holds of each of which all obligations are valid
abbrev pub ValidChainsHold : Type 0
ValidChainsHold = (places : ℕ) → 2 ≤ places → places ≤ 16 → AreValid (chain_of places) → HoldsAtAllSizes (chain_of places)
