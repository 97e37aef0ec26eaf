-- Labelled runs: what each position has, how positions follow one another, and which elements are touched.
use Rattle.std.specs.Prelude.{◌≡◌, ℕ, suc, ◌<◌, ◌≤◌, Bool, true, false, ◌&&◌, ◌||◌, eqb, cond, List, [], ◌∷◌, length, get_or, reverse}
use Rattle.lv_formula.specs.declared.symbols.SortId.{SortId}
use Rattle.lv_formula.specs.declared.symbols.Sym.TheVariants.{Own, Witness, Label}
use Rattle.lv_formula.specs.declared.formula.Formula.TheVariants.{Any}
use Rattle.lv_formula.specs.Fits.{is_sort}
use Rattle.lv_formula.specs.Meaning.{Meaning, IsStructureOf, in_range, is_element}
use Rattle.lv_formula.specs.Truth.{truth_in, all_true_in, any_below}
use Rattle.lv_system.specs.declared.parts.Parts.{Parts}
use Rattle.lv_system.specs.declared.parts.Sort.{Sort}
use Rattle.lv_system.specs.declared.parts.Symbol.{Symbol}
use Rattle.lv_system.specs.Step.{IsAllowed, IsPerformed, action_at, symbol_at}
use Rattle.lv_system.specs.Vocabularies.{constant_sort}
use Rattle.lv_labels.specs.Problem.{Problem, choice_at, label_at, state_vocabulary}

-- A run as functions of the position, from 0 to the last: the structure over the own symbols, the witnesses and the labels,
-- and the action with its elements that leads on.
pub record Run : Type 0 where
  pub at : ℕ → Meaning
  pub action : ℕ → ℕ
  pub elements : ℕ → List ℕ
  pub last : ℕ

-- at each tuple of its sorts a label is its body now and itself at the next position
abbrev pub LabelEquation : Problem → Meaning → (ℕ → List ℕ → Bool) → Type 0
LabelEquation q m next = (l : ℕ) → l < length q.labels → (tuple : List ℕ) → in_range m (label_at q l).sorts tuple ≡ true
    → m.holds (Label l) tuple ≡ (truth_in m (label_at q l).body (reverse tuple) && next l tuple)

-- axioms and initial conditions are true, the negated property is, and each witness meets its formula if any element does
pub record IsStart (q : Problem) (m : Meaning) : Type 0 where
  pub axioms : all_true_in m q.parts.axioms [] ≡ true
  pub inits : all_true_in m q.parts.inits [] ≡ true
  pub denied : truth_in m q.denied [] ≡ true
  pub chosen : (k : ℕ) → k < length q.choices → truth_in m (Any (choice_at q k).sort (choice_at q k).body) [] ≡ true
      → truth_in m (choice_at q k).body (m.value (Witness k) ∷ []) ≡ true

-- no sort is empty, and own constants and witnesses are elements of their sorts
abbrev pub IsState : Problem → Meaning → Type 0
IsState q m = IsStructureOf (state_vocabulary q) m

pub record IsLabelledRun (q : Problem) (r : Run) : Type 0 where
  pub structures : (i : ℕ) → i ≤ r.last → IsState q (r.at i)
  pub start : IsStart q (r.at 0)
  pub actions : (i : ℕ) → i < r.last → r.action i < length q.parts.actions
  pub allowed : (i : ℕ) → i < r.last → IsAllowed (action_at q.parts (r.action i)) (r.elements i) (r.at i)
  pub steps : (i : ℕ) → i < r.last → IsPerformed q.parts (action_at q.parts (r.action i)) (r.elements i) (r.at i) (r.at (suc i))
  pub witnesses : (i : ℕ) → i < r.last → (k : ℕ) → (r.at (suc i)).value (Witness k) ≡ (r.at i).value (Witness k)
  pub labels : (i : ℕ) → i < r.last → LabelEquation q (r.at i) (λ l tuple. (r.at (suc i)).holds (Label l) tuple)

-- ---- touched elements

-- the symbol is a constant of the sort
abbrev pub is_constant : Symbol → SortId → Bool
is_constant s sort = is_sort (constant_sort s.shape) sort

-- some own constant of the sort is the element
abbrev pub is_constant_value : Parts → (ℕ → ℕ) → SortId → ℕ → Bool
is_constant_value p value sort x = any_below (length p.symbols) (λ c. is_constant (symbol_at p c) sort && eqb (value c) x)

-- some witness of the sort is the element
abbrev pub is_witness_value : Problem → Meaning → SortId → ℕ → Bool
is_witness_value q m sort x = any_below (length q.choices) (λ k. eqb (choice_at q k).sort.0 sort.0 && eqb (m.value (Witness k)) x)

abbrev pub is_denoted : Problem → Meaning → SortId → ℕ → Bool
is_denoted q m sort x = is_constant_value q.parts (λ c. m.value (Own c)) sort x || is_witness_value q m sort x

-- the element is among those that a step takes for parameters of the sort
abbrev pub is_passed : List SortId → List ℕ → SortId → ℕ → Bool
is_passed [] elements sort x = false
is_passed (s ∷ ss) [] sort x = false
is_passed (s ∷ ss) (e ∷ es) sort x = (eqb s.0 sort.0 && eqb e x) || is_passed ss es sort x

abbrev pub no_sort : Sort
no_sort = record { name = []; finite = false }

abbrev pub is_finite : Parts → SortId → Bool
is_finite p sort = (get_or p.sorts sort.0 no_sort).finite

-- the elements touched at position i: of a finite sort all, of another those that constants and witnesses are at the positions
-- 0 to i, and those that steps before i were taken with
abbrev pub touched : Problem → Run → ℕ → SortId → ℕ → Bool
touched q r i sort x = cond (is_finite q.parts sort) (is_element (r.at 0) sort x)
    (any_below (suc i) (λ k. is_denoted q (r.at k) sort x) || any_below i (λ k. is_passed (action_at q.parts (r.action k)).params (r.elements k) sort x))
