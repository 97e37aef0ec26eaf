-- The structure that a step of the monitor makes of another.
use Rattle.std.specs.Prelude.{◌≡◌, ℕ, List, [], get_or}
use Rattle.lv_formula.specs.declared.symbols.Sym.TheVariants.{Due}
use Rattle.lv_formula.specs.Meaning.{AgreeOn, Meaning}
use Rattle.lv_formula.specs.Tuples.{has_tuple}
use Rattle.lv_struct.specs.Tables.{HasVocabulary, Tables, meaning}
use Rattle.lv_system.specs.declared.parts.Action.{Action}
use Rattle.lv_system.specs.declared.parts.Parts.{Parts}
use Rattle.lv_system.specs.Step.{action_at}
use Rattle.lv_labels.specs.declared.moves.Move.{Move}
use Rattle.lv_labels.specs.Monitor.{stepped, stepped_holds}
use Rattle.lv_labels.specs.Problem.{problem_of}
use Rattle.lv_labels.specs.Vocabularies.{catch_vocabulary}

-- the lists have the tuples that are due after the step, one list for each condition
abbrev pub AreDueAfter : Parts → Move → Action → Meaning → List (List (List ℕ)) → Type 0
AreDueAfter p mv a m due = (j : ℕ) (tuple : List ℕ)
    → has_tuple (get_or due j []) tuple ≡ stepped_holds (problem_of p) mv a m (Due j) tuple

-- the second structure is what the step with that action and move makes of the first, over the words of the monitored
-- structure
pub record IsMonitored (p : Parts) (action : ℕ) (mv : Move) (m w : Tables) : Type 0 where
  pub vocabulary : HasVocabulary (catch_vocabulary (problem_of p)) w
  pub sizes : w.sizes ≡ m.sizes
  pub agrees : AgreeOn (catch_vocabulary (problem_of p)) (stepped (problem_of p) mv (action_at p action) (meaning m)) (meaning w)
