-- Which trees and which bytes spell which lasso of a system.
use Rattle.std.specs.Prelude.{ℕ, ◌≤◌, List, [], ◌∷◌, length, codes, decimal, All}
use Rattle.lv_tree.specs.declared.tree.Tree.{Tree}
use Rattle.lv_tree.specs.Spelling.{SpellsTree}
use Rattle.lv_struct.specs.Tables.{IsSound}
use Rattle.lv_system.specs.declared.parts.Parts.{Parts}
use Rattle.lv_system.specs.Step.{action_at}
use Rattle.lv_system.specs.Vocabularies.{own_vocabulary}
use Rattle.lv_grammar.specs.Grammar.{Each, IsList, IsWord}
use Rattle.lv_grammar.specs.Structures.{IsStructure}
use Rattle.lv_replay.specs.declared.lasso.Lasso.{Lasso}
use Rattle.lv_replay.specs.declared.lasso.StepTaken.{StepTaken}
use Rattle.lv_replay.specs.Fits.{LassoFits}

-- (ACTION E ..)
pub record IsStep (p : Parts) (s : StepTaken) (t : Tree) : Type 0 where
  pub h : Tree
  pub items : List Tree
  pub list : IsList (h ∷ items) t
  pub name : IsWord (action_at p s.action).name h
  pub elements : Each (λ n a. IsWord (decimal n) a) s.elements items

-- (HEAD STEP ..), with at most 256 steps
pub record AreSteps (p : Parts) (head : List ℕ) (ss : List StepTaken) (t : Tree) : Type 0 where
  pub h : Tree
  pub items : List Tree
  pub list : IsList (h ∷ items) t
  pub word : IsWord head h
  pub steps : Each (IsStep p) ss items
  pub few : length ss ≤ 256

-- (lasso STRUCTURE (stem STEP ..) (loop STEP ..)), the structure over the system's own symbols
pub record IsLasso (p : Parts) (l : Lasso) (t : Tree) : Type 0 where
  pub h : Tree
  pub structure : Tree
  pub before : Tree
  pub round : Tree
  pub list : IsList (h ∷ structure ∷ before ∷ round ∷ []) t
  pub head : IsWord (codes "lasso") h
  pub start : IsStructure p (own_vocabulary p) l.start structure
  pub stem : AreSteps p (codes "stem") l.stem before
  pub turn : AreSteps p (codes "loop") l.turn round

-- the tree spells the lasso, which fits the system
pub record SpellsLasso (p : Parts) (t : Tree) (l : Lasso) : Type 0 where
  pub written : IsLasso p l t
  pub sound : IsSound l.start
  pub fits : LassoFits p l

-- the bytes spell a tree that spells the lasso
pub record TextSpellsLasso (p : Parts) (bytes : List ℕ) (l : Lasso) : Type 0 where
  pub tree : Tree
  pub spelled : SpellsTree bytes tree
  pub lasso : SpellsLasso p tree l

-- what can be written: a lasso that fits, with at most 256 elements in each sort and at most 256 steps in stem and loop each
pub record LassoCanBeShown (p : Parts) (l : Lasso) : Type 0 where
  pub fits : LassoFits p l
  pub few : All (λ n. n ≤ 256) l.start.sizes
  pub stem : length l.stem ≤ 256
  pub turn : length l.turn ≤ 256
