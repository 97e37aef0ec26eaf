-- What is written for a lasso.
use Rattle.std.specs.Prelude.{ℕ, List, [], ◌∷◌, map, codes}
use Rattle.lv_tree.specs.declared.tree.Tree.{Tree}
use Rattle.lv_system.specs.declared.parts.Parts.{Parts}
use Rattle.lv_system.specs.Step.{action_at}
use Rattle.lv_system.specs.Vocabularies.{own_vocabulary}
use Rattle.lv_grammar.specs.ShownFormulas.{list, word}
use Rattle.lv_grammar.specs.ShownStructures.{number, structure_tree}
use Rattle.lv_replay.specs.declared.lasso.Lasso.{Lasso}
use Rattle.lv_replay.specs.declared.lasso.StepTaken.{StepTaken}

abbrev pub shown_step : Parts → StepTaken → Tree
shown_step p s = list (word (action_at p s.action).name ∷ map number s.elements)

abbrev pub shown_steps : Parts → List ℕ → List StepTaken → Tree
shown_steps p head ss = list (word head ∷ map (shown_step p) ss)

abbrev pub shown_lasso : Parts → Lasso → Tree
shown_lasso p l = list (word (codes "lasso") ∷ structure_tree p (own_vocabulary p) l.start ∷ shown_steps p (codes "stem") l.stem ∷ shown_steps p (codes "loop") l.turn ∷ [])
