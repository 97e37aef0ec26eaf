-- When a lasso fits a system.
use Rattle.std.specs.Prelude.{◌≡◌, ℕ, ◌+◌, ◌<◌, ◌^◌, Bool, true, ◌&&◌, ltb, List, [], ◌∷◌, length}
use Rattle.lv_formula.specs.declared.symbols.SortId.{SortId}
use Rattle.lv_struct.specs.Tables.{HasVocabulary, size_in}
use Rattle.lv_formula.specs.Tuples.{over}
use Rattle.lv_system.specs.declared.parts.Parts.{Parts}
use Rattle.lv_system.specs.Step.{action_at}
use Rattle.lv_system.specs.Vocabularies.{own_vocabulary}
use Rattle.lv_replay.specs.declared.lasso.Lasso.{Lasso}
use Rattle.lv_replay.specs.declared.lasso.StepTaken.{StepTaken}

-- the action is there, and has an element in range for each of its parameters
abbrev pub step_fits : Parts → (SortId → ℕ) → StepTaken → Bool
step_fits p size s = ltb s.action (length p.actions) && over (λ sort x. ltb x (size sort)) (action_at p s.action).params s.elements

abbrev pub steps_fit : Parts → (SortId → ℕ) → List StepTaken → Bool
steps_fit p size [] = true
steps_fit p size (s ∷ ss) = step_fits p size s && steps_fit p size ss

-- the start has the system's own symbols, each step fits, the loop has a step, and all steps can be counted
pub record LassoFits (p : Parts) (l : Lasso) : Type 0 where
  pub vocabulary : HasVocabulary (own_vocabulary p) l.start
  pub stem : steps_fit p (size_in l.start) l.stem ≡ true
  pub turn : steps_fit p (size_in l.start) l.turn ≡ true
  pub loops : 0 < length l.turn
  pub few : length l.stem + length l.turn < 2 ^ 32
