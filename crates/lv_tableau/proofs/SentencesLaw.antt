-- The sentences of the tableau are true exactly where the definitions say.
use Rattle.std.proofs.Common.{◌≡◌, ℕ, ◌<◌, Bool, true, false, ◌&&◌, List, [], ◌∷◌, ◌++◌, length, reverse, refl, sym, ap, subst, ◌∙◌, ◌↔◌}
use Rattle.std.proofs.lemmas.Bool.{and_from, and_parts}
use Rattle.std.proofs.Math.Bool.{and-true}
use Rattle.lv_formula.specs.declared.symbols.Sym.TheVariants.{Label, Next}
use Rattle.lv_formula.specs.declared.formula.Formula.{Formula}
use Rattle.lv_formula.specs.declared.formula.Formula.TheVariants.{Atom, And, Iff}
use Rattle.lv_formula.proofs.Folds.{folds_at}
use Rattle.lv_formula.specs.Meaning.{Meaning, in_range, is_element}
use Rattle.lv_formula.specs.Truth.{all_true_in, iff, truth_in, values_of}
use Rattle.lv_labels.specs.Problem.{Condition, Problem, label_at, no_condition, tuple_variables}
use Rattle.lv_labels.specs.Runs.{LabelEquation}
use Rattle.lv_labels.proofs.Ranges.{over_length}
use Rattle.lv_labels.proofs.TupleVariables.{tuple_read}
use Rattle.lv_tableau.specs.Sentences.{IsDeniedStart, equation_of, equations_of, start_sentences_of}
use Rattle.lv_labels.proofs.OverTuples.{all_numbered-each, all_numbered-from, all_true-append, closed-each, closed-from}

pub iff-same : (a b : Bool) → iff a b ≡ true → a ≡ b
iff-same true b h = sym h
iff-same false true h = h
iff-same false false h = refl

pub iff-from : (a b : Bool) → a ≡ b → iff a b ≡ true
iff-from true b h = sym h
iff-from false true h = h
iff-from false false h = refl

module _ (m : Meaning) (l : ℕ) (c : Condition) where
  abbrev inner : Formula
  inner = Iff (Atom (Label l) (tuple_variables (length c.sorts))) (And (c.body ∷ Atom (Next l) (tuple_variables (length c.sorts)) ∷ []))

  at_tuple : (tuple : List ℕ) → in_range m c.sorts tuple ≡ true
      → truth_in m inner (reverse tuple) ≡ iff (m.holds (Label l) tuple) (truth_in m c.body (reverse tuple) && m.holds (Next l) tuple)
  at_tuple tuple inside =
      let read : values_of m (reverse tuple) (tuple_variables (length c.sorts)) ≡ tuple = tuple_read m (length c.sorts) tuple (over_length (is_element m) c.sorts tuple inside) in
      simp folds_at (ap (λ x. iff (m.holds (Label l) x) (truth_in m c.body (reverse tuple) && (m.holds (Next l) x && true))) read
      ∙ ap (λ b. iff (m.holds (Label l) tuple) (truth_in m c.body (reverse tuple) && b)) (and-true (m.holds (Next l) tuple)))

  pub equation-each : truth_in m (equation_of l c) [] ≡ true → (tuple : List ℕ) → in_range m c.sorts tuple ≡ true
      → m.holds (Label l) tuple ≡ (truth_in m c.body (reverse tuple) && m.holds (Next l) tuple)
  equation-each h tuple inside = iff-same _ _ (sym (at_tuple tuple inside) ∙ closed-each m inner c.sorts h tuple inside)

  pub equation-from : ((tuple : List ℕ) → in_range m c.sorts tuple ≡ true → m.holds (Label l) tuple ≡ (truth_in m c.body (reverse tuple) && m.holds (Next l) tuple))
      → truth_in m (equation_of l c) [] ≡ true
  equation-from h = closed-from m inner c.sorts (λ tuple inside. at_tuple tuple inside ∙ iff-from _ _ (h tuple inside))

-- the equations are true exactly where each label is its body and its next value
pub equations_true : (q : Problem) (m : Meaning) → (all_true_in m (equations_of q.labels) [] ≡ true) ↔ LabelEquation q m (λ l tuple. m.holds (Next l) tuple)
equations_true q m = (
  (λ h l b tuple inside. equation-each m l (label_at q l) (all_numbered-each no_condition equation_of m [] q.labels h l b) tuple inside),
  (λ h. all_numbered-from no_condition equation_of m [] q.labels (λ l b. equation-from m l (label_at q l) (h l b))),
)

-- the same of a list of labels that is the problem's
pub equations_of_labels : (cs : List Condition) (q : Problem) (m : Meaning) → q.labels ≡ cs → (all_true_in m (equations_of cs) [] ≡ true) ↔ LabelEquation q m (λ l tuple. m.holds (Next l) tuple)
equations_of_labels cs q m e = subst (λ ls. (all_true_in m (equations_of ls) [] ≡ true) ↔ LabelEquation q m (λ l tuple. m.holds (Next l) tuple)) e (equations_true q m)

-- the sentences at the start are true exactly where axioms, initial conditions and the negated property are
pub start_true : (q : Problem) (m : Meaning) → (all_true_in m (start_sentences_of q) [] ≡ true) ↔ IsDeniedStart q m
start_true q m = (
  (λ h.
      let a = and_parts (all_true_in m q.parts.axioms []) (all_true_in m (q.parts.inits ++ q.denied ∷ []) []) (sym (all_true-append m q.parts.axioms (q.parts.inits ++ q.denied ∷ []) []) ∙ h) in
      let b = and_parts (all_true_in m q.parts.inits []) (truth_in m q.denied [] && true) (sym (all_true-append m q.parts.inits (q.denied ∷ []) []) ∙ a.1) in
      record { axioms = a.0; inits = b.0; denied = (and_parts (truth_in m q.denied []) true b.1).0 }),
  (λ h. all_true-append m q.parts.axioms (q.parts.inits ++ q.denied ∷ []) []
      ∙ and_from (all_true_in m q.parts.axioms []) (all_true_in m (q.parts.inits ++ q.denied ∷ []) []) h.axioms
      (all_true-append m q.parts.inits (q.denied ∷ []) []
      ∙ and_from (all_true_in m q.parts.inits []) (truth_in m q.denied [] && true) h.inits (and_from (truth_in m q.denied []) true h.denied refl))),
)
