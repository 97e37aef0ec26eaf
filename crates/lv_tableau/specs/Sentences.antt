-- What the tableau of a system says as formulas.
use Rattle.std.specs.Prelude.{◌≡◌, ℕ, true, List, [], ◌∷◌, ◌++◌, length}
use Rattle.lv_formula.specs.declared.symbols.Sym.TheVariants.{Label, Next}
use Rattle.lv_formula.specs.declared.formula.Formula.{Formula}
use Rattle.lv_formula.specs.declared.formula.Formula.TheVariants.{Atom, And, Iff}
use Rattle.lv_formula.specs.Meaning.{Meaning}
use Rattle.lv_formula.specs.Truth.{all_true_in, truth_in}
use Rattle.lv_labels.specs.Closing.{all_over, numbered}
use Rattle.lv_labels.specs.Problem.{Condition, Problem, tuple_variables}

-- at each tuple the label is its body and its next value
abbrev pub equation_of : ℕ → Condition → Formula
equation_of l c =
    all_over c.sorts (Iff (Atom (Label l) (tuple_variables (length c.sorts))) (And (c.body ∷ Atom (Next l) (tuple_variables (length c.sorts)) ∷ [])))

abbrev pub equations_of : List Condition → List Formula
equations_of = numbered equation_of 0

-- axioms, initial conditions, and the reading of the negated property
abbrev pub start_sentences_of : Problem → List Formula
start_sentences_of q = q.parts.axioms ++ (q.parts.inits ++ q.denied ∷ [])

-- axioms and initial conditions are true, and the negated property is
pub record IsDeniedStart (q : Problem) (m : Meaning) : Type 0 where
  pub axioms : all_true_in m q.parts.axioms [] ≡ true
  pub inits : all_true_in m q.parts.inits [] ≡ true
  pub denied : truth_in m q.denied [] ≡ true
