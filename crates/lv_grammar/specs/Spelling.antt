-- Which trees and which bytes spell which system.
use Rattle.std.specs.Prelude.{ℕ, List}
use Rattle.lv_tree.specs.declared.tree.Tree.{Tree}
use Rattle.lv_tree.specs.Spelling.{SpellsTree}
use Rattle.lv_system.specs.declared.parts.Parts.{Parts}
use Rattle.lv_grammar.specs.Rules.{IsSystem}

-- the tree is one of the system by the rules, which have its names, scopes, sorts and limits
abbrev pub SpellsSystem : Parts → Tree → Type 0
SpellsSystem p t = IsSystem p t

-- the bytes spell a tree that spells the system
pub record Spells (bytes : List ℕ) (p : Parts) : Type 0 where
  pub tree : Tree
  pub spelled : SpellsTree bytes tree
  pub system : SpellsSystem p tree
