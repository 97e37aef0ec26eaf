-- Trees that spell lassos, and what is read of them.
use Rattle.std.specs.Prelude.{◌≡◌, true, Ok}
use Rattle.lv_tree.specs.declared.tree.Tree.{Tree}
use Rattle.lv_system.specs.declared.parts.Parts.{Parts}
use Rattle.lv_system.specs.Fits.{fits_parts}
use Rattle.lv_system.specs.Vocabularies.{own_vocabulary}
use Rattle.lv_grammar.specs.StructureLaws.{IsAlike}
use Rattle.lv_replay.specs.declared.lasso.Lasso.{Lasso}
use Rattle.lv_lasso.specs.Lassos.{SpellsLasso}
use Rattle.lv_lasso.specs.Reading.{lasso_in}

-- the same sizes, tuples and elements at the start, and the same steps
pub record IsAlikeLasso (p : Parts) (l m : Lasso) : Type 0 where
  pub start : IsAlike (own_vocabulary p) l.start m.start
  pub stem : l.stem ≡ m.stem
  pub turn : l.turn ≡ m.turn

-- what is read is spelled
abbrev pub ReadLassoIsSpelled : Type 0
ReadLassoIsSpelled = (p : Parts) (t : Tree) (l : Lasso) → fits_parts p ≡ true → lasso_in p t ≡ Ok l → SpellsLasso p t l

-- where a lasso is spelled, there is no fault, and the same is read
abbrev pub SpelledLassoIsRead : Type 0
SpelledLassoIsRead = (p : Parts) (t : Tree) (l : Lasso) → fits_parts p ≡ true → SpellsLasso p t l
    → (m : Lasso) × (lasso_in p t ≡ Ok m) × IsAlikeLasso p l m
