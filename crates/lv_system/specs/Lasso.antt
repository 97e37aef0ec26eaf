-- Lasso runs of a system, and when a system meets its property.
use Rattle.std.specs.Prelude.{◌≡◌, ℕ, ◌<◌, ◌≤◌, ◌-◌, true, false, List, [], ◌∷◌, ◌++◌, length, get_or, reverse}
use Rattle.lv_formula.specs.declared.symbols.SortId.{SortId}
use Rattle.lv_formula.specs.declared.formula.Formula.TheVariants.{True}
use Rattle.lv_formula.specs.Meaning.{Meaning, IsStructureOf, in_range}
use Rattle.lv_formula.specs.Truth.{truth_in, all_true_in}
use Rattle.lv_system.specs.declared.parts.Parts.{Parts}
use Rattle.lv_system.specs.declared.parts.Fair.{Fair}
use Rattle.lv_system.specs.Step.{IsAllowed, IsPerformed, action_at}
use Rattle.lv_system.specs.TemporalTruth.{Lasso, end_of, holds, next_of}
use Rattle.lv_system.specs.Vocabularies.{own_vocabulary}

-- a run of the system: the first state meets the axioms and the initial conditions, each later state is what an allowed
-- action makes of the state before it, and so is the loop's first state of its last
pub record IsLassoRun (p : Parts) (l : Lasso) : Type 0 where
  pub structures : (i : ℕ) → i ≤ end_of l → IsStructureOf (own_vocabulary p) (l.state i)
  pub axioms : all_true_in (l.state 0) p.axioms [] ≡ true
  pub inits : all_true_in (l.state 0) p.inits [] ≡ true
  pub actions : (i : ℕ) → i ≤ end_of l → l.action i < length p.actions
  pub allowed : (i : ℕ) → i ≤ end_of l → IsAllowed (action_at p (l.action i)) (l.elements i) (l.state i)
  pub steps : (i : ℕ) → i ≤ end_of l → IsPerformed p (action_at p (l.action i)) (l.elements i) (l.state i) (l.state (next_of l i))

abbrev pub no_fair : Fair
no_fair = record { name = []; params = []; condition = True }

abbrev pub fair_at : Parts → ℕ → Fair
fair_at p j = get_or p.fairs j no_fair

-- each fairness condition is true of each tuple at some position of the loop
abbrev pub IsFair : Parts → Lasso → Type 0
IsFair p l = (j : ℕ) → j < length p.fairs → (tuple : List ℕ) → in_range (l.state 0) (fair_at p j).params tuple ≡ true
    → (k : ℕ) × (l.stem ≤ k) × (k ≤ end_of l) × (truth_in (l.state k) (fair_at p j).condition (reverse tuple) ≡ true)

-- A position of a lasso as data: its structure, and the step that leads on.
pub record Stop : Type 0 where
  pub state : Meaning
  pub action : ℕ
  pub elements : List ℕ

abbrev pub no_stop : Stop
no_stop = record { state = record { size = λ s. 1; holds = λ r tuple. false; value = λ c. 0 }; action = 0; elements = [] }

abbrev pub stop_at : List Stop → List Stop → ℕ → Stop
stop_at stem loop i = get_or (stem ++ loop) i no_stop

-- the lasso that runs through the stem and then round the loop; it means something where the loop is not empty
abbrev pub lasso_of : List Stop → List Stop → Lasso
lasso_of stem loop = record {
  stem = length stem;
  further = length loop - 1;
  state = λ i. (stop_at stem loop i).state;
  action = λ i. (stop_at stem loop i).action;
  elements = λ i. (stop_at stem loop i).elements;
}

-- on each fair lasso run, of structures of any sizes, the property holds at the start
abbrev pub Meets : Parts → Type 0
Meets p = (stem loop : List Stop) → 0 < length loop → IsLassoRun p (lasso_of stem loop) → IsFair p (lasso_of stem loop)
    → holds (lasso_of stem loop) (λ k. 0) p.property 0 [] ≡ true
