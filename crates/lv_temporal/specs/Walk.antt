-- The monitor's walk along a labelled run.
use Rattle.std.specs.Prelude.{◌≡◌, ℕ, suc, ◌<◌, ◌≤◌, Bool, true, not, ◌&&◌, eqb, leb, cond, List, [], length, get_or, reverse}
use Rattle.lv_formula.specs.declared.symbols.SortId.{SortId}
use Rattle.lv_formula.specs.declared.symbols.Sym.{Sym}
use Rattle.lv_formula.specs.declared.symbols.Sym.TheVariants.{Own, Witness, Label, Due, Next, Param}
use Rattle.lv_formula.specs.Meaning.{Meaning}
use Rattle.lv_formula.specs.Tuples.{over}
use Rattle.lv_formula.specs.Truth.{all_below, all_true_in, truth_in}
use Rattle.lv_system.specs.Step.{action_at}
use Rattle.lv_labels.specs.Problem.{Problem, justice_at}
use Rattle.lv_labels.specs.Runs.{IsLabelledRun, Run, touched}
use Rattle.lv_labels.specs.Rounds.{IsRound}
use Rattle.lv_labels.specs.declared.moves.Move.{Move}
use Rattle.lv_labels.specs.declared.moves.Move.TheVariants.{Stay, Freeze, Save}
use Rattle.lv_labels.specs.Monitor.{MayMove, NoneDue, is_kept, is_touched, opening, stepped}
use Rattle.lv_labels.specs.Obligations.{invariants_of}

abbrev pub beside_holds : Meaning → (ℕ → List ℕ → Bool) → Sym → List ℕ → Bool
beside_holds m next (Next l) tuple = next l tuple
beside_holds m next sym tuple = m.holds sym tuple

abbrev pub beside_value : Meaning → List ℕ → Sym → ℕ
beside_value m elements (Param k) = get_or elements k 0
beside_value m elements sym = m.value sym

-- the structure, with a step's elements and the next values of the labels put beside it
abbrev pub beside : Meaning → List ℕ → (ℕ → List ℕ → Bool) → Meaning
beside m elements next = record { size = m.size; holds = beside_holds m next; value = beside_value m elements }

abbrev pub next_labels : Run → ℕ → ℕ → List ℕ → Bool
next_labels r i l tuple = (r.at (suc i)).holds (Label l) tuple

-- the step that the monitor makes from position i of the run
abbrev pub step_along : Problem → Run → ℕ → Move → Meaning → Meaning
step_along q r i mv m = stepped q mv (action_at q.parts (r.action i)) (beside m (r.elements i) (next_labels r i))

-- freeze at f, save at s, and stay elsewhere
abbrev pub moves : ℕ → ℕ → ℕ → Move
moves f s i = cond (eqb i f) Freeze (cond (eqb i s) Save Stay)

-- the justice condition is true of the tuple at no position from s on and before i
abbrev pub is_never_met : Problem → Run → ℕ → List ℕ → ℕ → ℕ → Bool
is_never_met q r j tuple s i = all_below i (λ k. not (leb s k && truth_in (r.at k) (justice_at q j).body (reverse tuple)))

-- the structure has the sizes, the own symbols, the witnesses and the labels of the position
pub record IsAt (m : Meaning) (position : Meaning) : Type 0 where
  pub sizes : (sort : SortId) → m.size sort ≡ position.size sort
  pub relations : (r : ℕ) (tuple : List ℕ) → m.holds (Own r) tuple ≡ position.holds (Own r) tuple
  pub labels : (l : ℕ) (tuple : List ℕ) → m.holds (Label l) tuple ≡ position.holds (Label l) tuple
  pub constants : (c : ℕ) → m.value (Own c) ≡ position.value (Own c)
  pub witnesses : (k : ℕ) → m.value (Witness k) ≡ position.value (Witness k)

-- w is the monitored structure at each position of the run, frozen at f and saved at s
pub record IsWalk (q : Problem) (r : Run) (f s : ℕ) (w : ℕ → Meaning) : Type 0 where
  pub opened : w 0 ≡ opening q (r.at 0)
  pub steps : (i : ℕ) → i < r.last → w (suc i) ≡ step_along q r i (moves f s i) (w i)
  pub allowed : (i : ℕ) → i < r.last → MayMove q (moves f s i) (w i)
  pub states : (i : ℕ) → i ≤ r.last → IsAt (w i) (r.at i)
  pub touches : (i : ℕ) → i ≤ r.last → (sort : SortId) (x : ℕ) → is_touched (w i) sort x ≡ touched q r i sort x
  pub due_opened : (i : ℕ) → i ≤ f → i ≤ r.last → (j : ℕ) → j < length q.justice → (tuple : List ℕ)
      → (w i).holds (Due j) tuple ≡ (over (touched q r 0) (justice_at q j).sorts tuple && is_never_met q r j tuple 0 i)
  pub due_frozen : (i : ℕ) → f < i → i ≤ s → i ≤ r.last → (j : ℕ) → j < length q.justice → (tuple : List ℕ)
      → (w i).holds (Due j) tuple ≡ (over (touched q r f) (justice_at q j).sorts tuple && is_never_met q r j tuple f i)
  pub due_saved : (i : ℕ) → s < i → i ≤ r.last → (j : ℕ) → j < length q.justice → (tuple : List ℕ)
      → (w i).holds (Due j) tuple ≡ (over (touched q r s) (justice_at q j).sorts tuple && is_never_met q r j tuple s i)
  pub none_due : (i : ℕ) → s < i → i ≤ r.last → IsRound q r s i → NoneDue q (w i)
  pub kept : (i : ℕ) → f < i → i ≤ r.last → (sort : SortId) (x : ℕ) → is_kept (w i) sort x ≡ touched q r f sort x
  pub invariants : (i : ℕ) → i ≤ r.last → all_true_in (w i) (invariants_of q.parts) [] ≡ true

-- Along each labelled run the monitor can freeze at f, if a first round ends there, and save at s, if a second one does. A
-- round is asked for only where the run gets to its end: f or s past the run's last position means no freeze or no save.
abbrev pub Walks : Problem → Type 0
Walks q = (r : Run) → IsLabelledRun q r → (f s : ℕ) → f < s
    → (f ≤ r.last → IsRound q r 0 f) → (s ≤ r.last → IsRound q r f s) → (w : ℕ → Meaning) × IsWalk q r f s w
