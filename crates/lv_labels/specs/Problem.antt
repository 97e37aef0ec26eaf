-- A system with the readings of its temporal formulas: all that labelled runs, the monitor and the obligations speak of.
use Rattle.std.specs.Prelude.{ℕ, zero, suc, List, [], ◌∷◌, ◌++◌, length, map, get_or, reverse}
use Rattle.lv_formula.specs.declared.symbols.SortId.{SortId}
use Rattle.lv_formula.specs.declared.symbols.Sym.{Sym}
use Rattle.lv_formula.specs.declared.symbols.Sym.TheVariants.{Label}
use Rattle.lv_formula.specs.declared.terms.Term.{Term}
use Rattle.lv_formula.specs.declared.terms.Term.TheVariants.{Var}
use Rattle.lv_formula.specs.declared.formula.Formula.{Formula}
use Rattle.lv_formula.specs.declared.formula.Formula.TheVariants.{True, Not, Or, Atom}
use Rattle.lv_formula.specs.declared.vocabulary.RelShape.{RelShape}
use Rattle.lv_formula.specs.declared.vocabulary.Vocabulary.{Vocabulary}
use Rattle.lv_system.specs.declared.parts.Parts.{Parts}
use Rattle.lv_system.specs.declared.parts.Fair.{Fair}
use Rattle.lv_system.specs.declared.parts.WitnessDecl.{WitnessDecl}
use Rattle.lv_system.specs.Vocabularies.{witness_vocabulary}
use Rattle.lv_labels.specs.declared.key.Key.{Key}
use Rattle.lv_labels.specs.Labels.{labels_of, reading}

-- a formula over a tuple of elements of these sorts
pub record Condition : Type 0 where
  pub sorts : List SortId
  pub body : Formula

-- a witness: its sort, and the reading of its formula over one variable
pub record Choice : Type 0 where
  pub sort : SortId
  pub body : Formula

-- the parts, the reading of the negated property, the witnesses, the labels with the readings of their bodies, and
-- the justice conditions
pub record Problem : Type 0 where
  pub parts : Parts
  pub denied : Formula
  pub choices : List Choice
  pub labels : List Condition
  pub justice : List Condition

-- the variables of a tuple of n elements
abbrev pub tuple_variables : ℕ → List Term
tuple_variables zero = []
tuple_variables (suc n) = Var n ∷ tuple_variables n

abbrev pub label_condition : List Key → Key → Condition
label_condition table key = record { sorts = key.sorts; body = reading table (reverse key.sorts) key.inner }

-- the label, or not its body
abbrev pub label_justice : List Key → ℕ → Key → Condition
label_justice table l key = record { sorts = key.sorts; body = Or (Atom (Label l) (tuple_variables (length key.sorts)) ∷ Not (reading table (reverse key.sorts) key.inner) ∷ []) }

abbrev pub label_justices : List Key → ℕ → List Key → List Condition
label_justices table l [] = []
label_justices table l (key ∷ keys) = label_justice table l key ∷ label_justices table (suc l) keys

abbrev pub fair_condition : Fair → Condition
fair_condition f = record { sorts = f.params; body = f.condition }

abbrev pub choice_of : List Key → WitnessDecl → Choice
choice_of table w = record { sort = w.sort; body = reading table (w.sort ∷ []) w.formula }

abbrev pub problem_over : List Key → Parts → Problem
problem_over table p = record {
  parts = p;
  denied = Not (reading table [] p.property);
  choices = map (choice_of table) p.witnesses;
  labels = map (label_condition table) table;
  justice = map fair_condition p.fairs ++ label_justices table 0 table;
}

-- the system with the table of its own labels
abbrev pub problem_of : Parts → Problem
problem_of p = problem_over (labels_of p) p

abbrev pub no_condition : Condition
no_condition = record { sorts = []; body = True }

abbrev pub label_at : Problem → ℕ → Condition
label_at q l = get_or q.labels l no_condition

abbrev pub justice_at : Problem → ℕ → Condition
justice_at q j = get_or q.justice j no_condition

abbrev pub no_choice : Choice
no_choice = record { sort = record { 0 = 0 }; body = True }

abbrev pub choice_at : Problem → ℕ → Choice
choice_at q k = get_or q.choices k no_choice

-- a relation for each condition, over its sorts, named by the number of the condition
abbrev pub shapes_from : (ℕ → Sym) → ℕ → List Condition → List RelShape
shapes_from name n [] = []
shapes_from name n (c ∷ cs) = record { sym = name n; sorts = c.sorts } ∷ shapes_from name (suc n) cs

abbrev pub names_for : {X : Type 0} → (ℕ → Sym) → ℕ → List X → List Sym
names_for name n [] = []
names_for name n (x ∷ xs) = name n ∷ names_for name (suc n) xs

-- own symbols, witnesses and labels: what a labelled run has at each position
abbrev pub state_vocabulary : Problem → Vocabulary
state_vocabulary q = record {
  sorts = length q.parts.sorts;
  relations = (witness_vocabulary q.parts (length q.parts.witnesses)).relations ++ shapes_from Label 0 q.labels;
  constants = (witness_vocabulary q.parts (length q.parts.witnesses)).constants;
  order = (witness_vocabulary q.parts (length q.parts.witnesses)).order ++ names_for Label 0 q.labels;
}
