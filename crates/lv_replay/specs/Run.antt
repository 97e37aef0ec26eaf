-- The run that a lasso stands for: the structures that its steps make one after the other.
use Rattle.std.specs.Prelude.{◌≡◌, true, List, [], ◌∷◌}
use Rattle.lv_formula.specs.Meaning.{Meaning}
use Rattle.lv_struct.specs.Tables.{meaning}
use Rattle.lv_formula.specs.Truth.{all_true_in}
use Rattle.lv_system.specs.declared.parts.Parts.{Parts}
use Rattle.lv_system.specs.Step.{action_at, performed}
use Rattle.lv_system.specs.Lasso.{Stop, lasso_of}
use Rattle.lv_system.specs.TemporalTruth as runs
use Rattle.lv_replay.specs.declared.lasso.Lasso.{Lasso}
use Rattle.lv_replay.specs.declared.lasso.StepTaken.{StepTaken}

-- the structure after the step
abbrev pub taken : Parts → Meaning → StepTaken → Meaning
taken p m s = performed p (action_at p s.action) s.elements m

-- the structure after the steps
abbrev pub reached : Parts → Meaning → List StepTaken → Meaning
reached p m [] = m
reached p m (s ∷ ss) = reached p (taken p m s) ss

-- the structures in which the steps are taken
abbrev pub states_of : Parts → Meaning → List StepTaken → List Meaning
states_of p m [] = []
states_of p m (s ∷ ss) = m ∷ states_of p (taken p m s) ss

abbrev pub stops_of : Parts → Meaning → List StepTaken → List Stop
stops_of p m [] = []
stops_of p m (s ∷ ss) = record { state = m; action = s.action; elements = s.elements } ∷ stops_of p (taken p m s) ss

-- the lasso's run: the stem's states, and the loop's, each with its step
abbrev pub run_of : Parts → Lasso → runs.Lasso
run_of p l = lasso_of (stops_of p (meaning l.start) l.stem) (stops_of p (reached p (meaning l.start) l.stem) l.turn)

-- the axioms and the initial conditions are true at the start
pub record Begins (p : Parts) (m : Meaning) : Type 0 where
  pub axioms : all_true_in m p.axioms [] ≡ true
  pub inits : all_true_in m p.inits [] ≡ true
