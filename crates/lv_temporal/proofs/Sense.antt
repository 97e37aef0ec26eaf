-- Validity for structures as functions: what the walk and the count use of valid obligations.
use Rattle.std.proofs.Common.{◌≡◌, ℕ, ◌<◌, true, [], length}
use Rattle.lv_formula.specs.declared.symbols.Sym.TheVariants.{Next}
use Rattle.lv_formula.specs.Meaning.{IsStructureOf, Meaning}
use Rattle.lv_formula.specs.Truth.{all_true_in}
use Rattle.lv_system.specs.Step.{IsAllowed, action_at}
use Rattle.lv_labels.specs.Problem.{Problem, state_vocabulary}
use Rattle.lv_labels.specs.Runs.{IsStart, LabelEquation}
use Rattle.lv_labels.specs.declared.moves.Move.{Move}
use Rattle.lv_labels.specs.Monitor.{IsCaught, MayMove, elements_in, opening, stepped}
use Rattle.lv_labels.specs.Vocabularies.{catch_vocabulary, step_vocabulary}
use Rattle.lv_labels.specs.Obligations.{invariants_of}

-- the invariants hold in the opening of each start, and after each step from where they hold
pub record AreKept (q : Problem) : Type 0 where
  pub start : (m : Meaning) → IsStructureOf (state_vocabulary q) m → IsStart q m → all_true_in (opening q m) (invariants_of q.parts) [] ≡ true
  pub step : (n : ℕ) → n < length q.parts.actions → (mv : Move) (m : Meaning) → IsStructureOf (step_vocabulary q (action_at q.parts n)) m
      → all_true_in m q.parts.axioms [] ≡ true → all_true_in m (invariants_of q.parts) [] ≡ true
      → IsAllowed (action_at q.parts n) (elements_in m (action_at q.parts n)) m → MayMove q mv m → LabelEquation q m (λ l tuple. m.holds (Next l) tuple)
      → all_true_in (stepped q mv (action_at q.parts n) m) (invariants_of q.parts) [] ≡ true

-- no structure in which the invariants hold is caught
abbrev pub NoneCaught : Problem → Type 0
NoneCaught q = (m : Meaning) → IsStructureOf (catch_vocabulary q) m → all_true_in m q.parts.axioms [] ≡ true → all_true_in m (invariants_of q.parts) [] ≡ true → IsCaught q m → ⊥
