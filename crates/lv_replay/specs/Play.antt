-- Taking the steps of a lasso one after the other, and where a guard is false.
use Rattle.std.specs.Prelude.{◌≡◌, ℕ, suc, Bool, cond, List, [], ◌∷◌, ◌++◌, length, map, reverse, Option, Some, None}
use Rattle.lv_formula.specs.Meaning.{Meaning}
use Rattle.lv_struct.specs.Tables.{IsSound, Tables, meaning}
use Rattle.lv_formula.specs.Truth.{truth_in}
use Rattle.lv_system.specs.declared.parts.Parts.{Parts}
use Rattle.lv_system.specs.Step.{action_at}
use Rattle.lv_exec.specs.Symbols.{SameSymbols}
use Rattle.lv_replay.specs.declared.lasso.Lasso.{Lasso}
use Rattle.lv_replay.specs.declared.lasso.StepTaken.{StepTaken}
use Rattle.lv_replay.specs.Run.{Begins, reached, states_of, taken}

abbrev pub is_guarded : Parts → Meaning → StepTaken → Bool
is_guarded p m s = truth_in m (action_at p s.action).guard (reverse s.elements)

-- the number of the first step whose guard is false, where the first step has the number n
abbrev pub first_refused : Parts → Meaning → ℕ → List StepTaken → Option ℕ
first_refused p m n [] = None
first_refused p m n (s ∷ ss) = cond (is_guarded p m s) (first_refused p (taken p m s) (suc n) ss) (Some n)

-- All steps were taken from the start: each structure in which one was taken stands behind those of before, and the last one
-- leads to the end.
pub record Walked (p : Parts) (start : Tables) (ss : List StepTaken) (before states : List Tables) (end : Tables) : Type 0 where
  pub guarded : first_refused p (meaning start) (length before) ss ≡ None
  pub passed : map meaning states ≡ map meaning before ++ states_of p (meaning start) ss
  pub ends : meaning end ≡ reached p (meaning start) ss
  pub symbols : SameSymbols start end

-- the steps were taken, or those before the first whose guard is false
abbrev pub IsWalked : Parts → Tables → List StepTaken → List Tables → List Tables → Option Tables → Type 0
IsWalked p start ss before states None = first_refused p (meaning start) (length before) ss ≡ Some (length states)
IsWalked p start ss before states (Some end) = Walked p start ss before states end

-- All steps of a lasso that begins were taken through the states: they lead to the loop's first state, and round the loop to the last.
pub record IsPlayed (p : Parts) (l : Lasso) (first last : Tables) (through : List Tables) : Type 0 where
  pub begins : Begins p (meaning l.start)
  pub guarded : first_refused p (meaning l.start) 0 (l.stem ++ l.turn) ≡ None
  pub states : map meaning through ≡ states_of p (meaning l.start) (l.stem ++ l.turn)
  pub starts : meaning first ≡ reached p (meaning l.start) l.stem
  pub ends : meaning last ≡ reached p (meaning l.start) (l.stem ++ l.turn)
  pub symbols : SameSymbols first last
  pub sound_start : IsSound l.start
  pub sound_first : IsSound first
  pub sound_last : IsSound last
