-- What each answer of a replay says of the lasso.
use Rattle.std.specs.Prelude.{◌≡◌, ℕ, ◌<◌, ◌≤◌, true, false, List, [], length, reverse}
use Rattle.lv_formula.specs.Meaning.{in_range}
use Rattle.lv_struct.specs.Tables.{meaning}
use Rattle.lv_formula.specs.Truth.{truth_in, all_true_in}
use Rattle.lv_eval.specs.FirstFalse.{IsFirstFalse}
use Rattle.lv_system.specs.declared.parts.Parts.{Parts}
use Rattle.lv_system.specs.declared.parts.Fair.{Fair}
use Rattle.lv_system.specs.Step.{IsAllowed, IsPerformed, action_at}
use Rattle.lv_system.specs.Lasso.{IsFair, IsLassoRun, fair_at}
use Rattle.lv_system.specs.TemporalTruth as runs
use Rattle.lv_system.specs.TemporalTruth.{end_of, holds}
use Rattle.lv_replay.specs.declared.lasso.Lasso.{Lasso}
use Rattle.lv_replay.specs.declared.answer.ReplayAnswer.{ReplayAnswer}
use Rattle.lv_replay.specs.declared.answer.ReplayAnswer.TheVariants.{AxiomFails, NotInit, GuardFails, LoopOpen, Unfair, Satisfies, Violates}
use Rattle.lv_replay.specs.Run.{Begins, run_of}

-- the step at the position is allowed
abbrev pub IsAllowedAt : Parts → runs.Lasso → ℕ → Type 0
IsAllowedAt p r i = IsAllowed (action_at p (r.action i)) (r.elements i) (r.state i)

-- the step with the number isn't allowed, and those before it are
pub record IsFirstRefused (p : Parts) (r : runs.Lasso) (n : ℕ) : Type 0 where
  pub there : n ≤ end_of r
  pub earlier : (i : ℕ) → i < n → IsAllowedAt p r i
  pub refused : IsAllowedAt p r n → ⊥

abbrev pub AreAllowed : Parts → runs.Lasso → Type 0
AreAllowed p r = (i : ℕ) → i ≤ end_of r → IsAllowedAt p r i

-- the step at the loop's last state leads to its first
abbrev pub IsClosed : Parts → runs.Lasso → Type 0
IsClosed p r = IsPerformed p (action_at p (r.action (end_of r))) (r.elements (end_of r)) (r.state (end_of r)) (r.state r.stem)

-- the condition is true of the tuple at some position of the loop
abbrev pub IsMetWith : runs.Lasso → Fair → List ℕ → Type 0
IsMetWith r c tuple = (k : ℕ) × (r.stem ≤ k) × (k ≤ end_of r) × (truth_in (r.state k) c.condition (reverse tuple) ≡ true)

-- it is true of each tuple at some position of the loop
abbrev pub IsMet : runs.Lasso → Fair → Type 0
IsMet r c = (tuple : List ℕ) → in_range (r.state 0) c.params tuple ≡ true → IsMetWith r c tuple

-- the condition with the number fails for some tuple, and those before it are met
pub record IsFirstUnmet (p : Parts) (r : runs.Lasso) (n : ℕ) : Type 0 where
  pub there : n < length p.fairs
  pub earlier : (j : ℕ) → j < n → IsMet r (fair_at p j)
  pub unmet : (tuple : List ℕ) × (in_range (r.state 0) (fair_at p n).params tuple ≡ true) × (IsMetWith r (fair_at p n) tuple → ⊥)

-- what an answer says of a lasso that fits; each cause excludes those of the other answers
abbrev pub IsAnswer : Parts → Lasso → ReplayAnswer → Type 0
IsAnswer p l (AxiomFails number) = IsFirstFalse (meaning l.start) p.axioms number
IsAnswer p l NotInit = (all_true_in (meaning l.start) p.axioms [] ≡ true) × (all_true_in (meaning l.start) p.inits [] ≡ false)
IsAnswer p l (GuardFails step) = Begins p (meaning l.start) × IsFirstRefused p (run_of p l) step
IsAnswer p l LoopOpen = Begins p (meaning l.start) × AreAllowed p (run_of p l) × (IsClosed p (run_of p l) → ⊥)
IsAnswer p l (Unfair fair) = IsLassoRun p (run_of p l) × IsFirstUnmet p (run_of p l) fair
IsAnswer p l Satisfies = IsLassoRun p (run_of p l) × IsFair p (run_of p l) × (holds (run_of p l) (λ k. 0) p.property 0 [] ≡ true)
IsAnswer p l Violates = IsLassoRun p (run_of p l) × IsFair p (run_of p l) × (holds (run_of p l) (λ k. 0) p.property 0 [] ≡ false)
