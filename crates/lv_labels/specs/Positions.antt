-- Labelled runs as lists of positions.
use Rattle.std.specs.Prelude.{ℕ, ◌<◌, ◌-◌, Bool, false, List, [], length, get_or}
use Rattle.lv_formula.specs.declared.symbols.Sym.{Sym}
use Rattle.lv_formula.specs.declared.symbols.Sym.TheVariants.{Witness, Label}
use Rattle.lv_formula.specs.Meaning.{Meaning}
use Rattle.lv_system.specs.declared.parts.Parts.{Parts}
use Rattle.lv_labels.specs.Problem.{problem_of}
use Rattle.lv_labels.specs.Rounds.{IsBounded}
use Rattle.lv_labels.specs.Runs.{IsLabelledRun, Run}

-- a position: its structure over the own symbols, a table for each label, and the step that leads on
pub record Position : Type 0 where
  pub state : Meaning
  pub labels : ℕ → List ℕ → Bool
  pub action : ℕ
  pub elements : List ℕ

abbrev pub no_position : Position
no_position = record { state = record { size = λ s. 1; holds = λ r tuple. false; value = λ c. 0 }; labels = λ l tuple. false; action = 0; elements = [] }

abbrev pub holds_at : Position → Sym → List ℕ → Bool
holds_at x (Label l) tuple = x.labels l tuple
holds_at x sym tuple = x.state.holds sym tuple

abbrev pub value_at : Position → List ℕ → Sym → ℕ
value_at x witnesses (Witness k) = get_or witnesses k 0
value_at x witnesses sym = x.state.value sym

-- the structure with the labels and with one element for each witness
abbrev pub seen_at : Position → List ℕ → Meaning
seen_at x witnesses = record { size = x.state.size; holds = holds_at x; value = value_at x witnesses }

-- the run with these witnesses and positions; it means something where there is a position
abbrev pub run_of : List ℕ → List Position → Run
run_of witnesses positions = record {
  at = λ i. seen_at (get_or positions i no_position) witnesses;
  action = λ i. (get_or positions i no_position).action;
  elements = λ i. (get_or positions i no_position).elements;
  last = length positions - 1;
}

-- no labelled run of the negated property has, after a freeze, more rounds than the frozen elements have valuations
abbrev pub Bounded : Parts → Type 0
Bounded p = (witnesses : List ℕ) (positions : List Position) → 0 < length positions → IsLabelledRun (problem_of p) (run_of witnesses positions)
    → IsBounded (problem_of p) (run_of witnesses positions)
