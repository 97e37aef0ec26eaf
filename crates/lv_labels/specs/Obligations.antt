-- The obligations of a system: their order, their vocabularies, what breaks one, and when it is valid.
use Rattle.std.specs.Prelude.{◌≡◌, ℕ, suc, true, false, List, [], ◌∷◌, ◌++◌, map, get_or, All}
use Rattle.lv_formula.specs.declared.formula.Formula.{Formula}
use Rattle.lv_formula.specs.declared.symbols.Sym.TheVariants.{Next}
use Rattle.lv_formula.specs.declared.formula.Formula.TheVariants.{True}
use Rattle.lv_formula.specs.declared.vocabulary.Vocabulary.{Vocabulary}
use Rattle.lv_formula.specs.Fits.{all_fit_in}
use Rattle.lv_formula.specs.Meaning.{Meaning}
use Rattle.lv_struct.specs.Tables.{HasVocabulary, IsSound, Tables, meaning}
use Rattle.lv_formula.specs.Truth.{all_true_in, truth_in}
use Rattle.lv_system.specs.declared.parts.Parts.{Parts}
use Rattle.lv_system.specs.declared.parts.Action.{Action}
use Rattle.lv_system.specs.declared.parts.Invariant.{Invariant}
use Rattle.lv_system.specs.Step.{IsAllowed, action_at}
use Rattle.lv_labels.specs.Problem.{Problem, problem_of, state_vocabulary}
use Rattle.lv_labels.specs.Runs.{IsStart, LabelEquation}
use Rattle.lv_labels.specs.declared.moves.Move.{Move}
use Rattle.lv_labels.specs.declared.moves.Move.TheVariants.{Stay, Freeze, Save}
use Rattle.lv_labels.specs.Monitor.{IsCaught, MayMove, elements_in, opening, stepped}
use Rattle.lv_labels.specs.Vocabularies.{catch_vocabulary, step_vocabulary}
use Rattle.lv_labels.specs.declared.which.Which.{Which}
use Rattle.lv_labels.specs.declared.which.Which.TheVariants.{Start, Step, Catch}

abbrev pub formula_of : Invariant → Formula
formula_of i = i.formula

abbrev pub invariants_of : Parts → List Formula
invariants_of p = map formula_of p.invariants

abbrev pub invariant_at : Parts → ℕ → Formula
invariant_at p i = get_or (invariants_of p) i True

-- ---- order

-- one for each invariant, where the first has the number n
abbrev pub starts_from : ℕ → List Invariant → List Which
starts_from n [] = []
starts_from n (i ∷ is) = Start n ∷ starts_from (suc n) is

abbrev pub steps_of_move : ℕ → Move → ℕ → List Invariant → List Which
steps_of_move action mv n [] = []
steps_of_move action mv n (i ∷ is) = Step action mv n ∷ steps_of_move action mv (suc n) is

-- for each action, for each move, one for each invariant
abbrev pub steps_from : List Invariant → ℕ → List Action → List Which
steps_from invariants n [] = []
steps_from invariants n (a ∷ as') = steps_of_move n Stay 0 invariants ++ (steps_of_move n Freeze 0 invariants ++ (steps_of_move n Save 0 invariants ++ steps_from invariants (suc n) as'))

-- the starts, the steps, and last the catch; an obligation's number is its place in this list
abbrev pub obligations_of : Parts → List Which
obligations_of p = starts_from 0 p.invariants ++ (steps_from p.invariants 0 p.actions ++ Catch ∷ [])

abbrev pub vocabulary_of : Problem → Which → Vocabulary
vocabulary_of q (Start invariant) = state_vocabulary q
vocabulary_of q (Step action mv invariant) = step_vocabulary q (action_at q.parts action)
vocabulary_of q Catch = catch_vocabulary q

-- ---- what breaks an obligation

-- the structure can be that of a run's first position, and the invariant is false in its opening
pub record BreaksStart (q : Problem) (i : ℕ) (m : Meaning) : Type 0 where
  pub start : IsStart q m
  pub fails : truth_in (opening q m) (invariant_at q.parts i) [] ≡ false

-- axioms and invariants are true, the action is allowed with the parameters and so is the move, each label is its body
-- and its next value, and the invariant is false after the step
pub record BreaksStep (q : Problem) (action : ℕ) (mv : Move) (i : ℕ) (m : Meaning) : Type 0 where
  pub axioms : all_true_in m q.parts.axioms [] ≡ true
  pub invariants : all_true_in m (invariants_of q.parts) [] ≡ true
  pub allowed : IsAllowed (action_at q.parts action) (elements_in m (action_at q.parts action)) m
  pub may_move : MayMove q mv m
  pub labels : LabelEquation q m (λ l tuple. m.holds (Next l) tuple)
  pub fails : truth_in (stepped q mv (action_at q.parts action) m) (invariant_at q.parts i) [] ≡ false

-- axioms and invariants are true, and the structure is caught
pub record BreaksCatch (q : Problem) (m : Meaning) : Type 0 where
  pub axioms : all_true_in m q.parts.axioms [] ≡ true
  pub invariants : all_true_in m (invariants_of q.parts) [] ≡ true
  pub caught : IsCaught q m

abbrev pub Breaks : Problem → Which → Meaning → Type 0
Breaks q (Start invariant) m = BreaksStart q invariant m
Breaks q (Step action mv invariant) m = BreaksStep q action mv invariant m
Breaks q Catch m = BreaksCatch q m

-- no structure as data of the obligation's vocabulary, of any sizes, breaks it
abbrev pub IsValid : Problem → Which → Type 0
IsValid q which = (w : Tables) → IsSound w → HasVocabulary (vocabulary_of q which) w → Breaks q which (meaning w) → ⊥

-- every obligation of the system is valid
abbrev pub AreValid : Parts → Type 0
AreValid p = All (IsValid (problem_of p)) (obligations_of p)

-- the starts and the steps are valid
abbrev pub IsInductive : Parts → Type 0
IsInductive p = All (IsValid (problem_of p)) (starts_from 0 p.invariants ++ steps_from p.invariants 0 p.actions)

-- each invariant is a closed formula over the words of the monitored structure
abbrev pub InvariantsFit : Parts → Type 0
InvariantsFit p = all_fit_in (catch_vocabulary (problem_of p)) [] (invariants_of p) ≡ true
