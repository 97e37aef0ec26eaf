-- What is touched at the start, as a formula and as a set.
use Rattle.std.proofs.Common.{◌≡◌, ℕ, suc, Bool, true, false, ◌||◌, eqb, cond, List, [], ◌∷◌, ◌++◌, length, map, refl, ap, ap₂, ◌∙◌}
use Rattle.lv_formula.specs.declared.symbols.SortId.{SortId}
use Rattle.lv_formula.specs.declared.symbols.Sym.TheVariants.{Own, Witness}
use Rattle.lv_formula.specs.declared.terms.Term.{Term}
use Rattle.lv_formula.specs.declared.terms.Term.TheVariants.{Const}
use Rattle.lv_formula.specs.declared.formula.Formula.{Formula}
use Rattle.lv_formula.specs.declared.formula.Formula.TheVariants.{True, Or}
use Rattle.lv_formula.proofs.Folds.{folds_at}
use Rattle.lv_formula.specs.Meaning.{Meaning}
use Rattle.lv_formula.specs.Truth.{any_true_in, truth_in, value_of}
use Rattle.lv_formula.proofs.Below.{any_below_same}
use Rattle.lv_system.specs.declared.parts.Parts.{Parts}
use Rattle.lv_system.specs.declared.parts.WitnessDecl.{WitnessDecl}
use Rattle.lv_system.specs.Step.{no_symbol, symbol_at}
use Rattle.lv_labels.specs.declared.key.Key.{Key}
use Rattle.lv_labels.specs.Labels.{labels_of}
use Rattle.lv_labels.specs.Problem.{Choice, choice_at, choice_of, no_choice, problem_of}
use Rattle.lv_labels.specs.Runs.{is_constant, is_constant_value, is_denoted, is_finite, is_witness_value}
use Rattle.lv_footprint.specs.Footprint.{first_touched, same_constant, same_if, same_witness}
use Rattle.lv_footprint.specs.Gathered.{gathered}
use Rattle.lv_footprint.proofs.GatheredLaw.{any_gathered, any_true-append, same_if-true}

abbrev same_choice : SortId → Term → ℕ → Choice → List Formula
same_choice sort t k c = same_if (eqb c.sort.0 sort.0) t (Const (Witness k))

as_choices : (table : List Key) (sort : SortId) (t : Term) (k : ℕ) (ws : List WitnessDecl) → gathered (same_witness sort t) k ws ≡ gathered (same_choice sort t) k (map (choice_of table) ws)
as_choices table sort t k [] = refl
as_choices table sort t k (w ∷ ws) = ap (λ fs. same_if (eqb w.sort.0 sort.0) t (Const (Witness k)) ++ fs) (as_choices table sort t (suc k) ws)

module _ (p : Parts) (m : Meaning) (env : List ℕ) (sort : SortId) (t : Term) where
  constants : any_true_in m (gathered (same_constant sort t) 0 p.symbols) env ≡ is_constant_value p (λ c. m.value (Own c)) sort (value_of m env t)
  constants = any_gathered no_symbol (same_constant sort t) m env p.symbols
      ∙ any_below_same (length p.symbols) _ _ (λ c l. same_if-true m env (is_constant (symbol_at p c) sort) t (Const (Own c)))

  witnesses : any_true_in m (gathered (same_witness sort t) 0 p.witnesses) env ≡ is_witness_value (problem_of p) m sort (value_of m env t)
  witnesses = ap (λ fs. any_true_in m fs env) (as_choices (labels_of p) sort t 0 p.witnesses)
      ∙ any_gathered no_choice (same_choice sort t) m env (problem_of p).choices
      ∙ any_below_same (length (problem_of p).choices) _ _ (λ k l. same_if-true m env (eqb (choice_at (problem_of p) k).sort.0 sort.0) t (Const (Witness k)))

  -- the term is touched first exactly where it is of a finite sort or denoted
  pub first_true : truth_in m (first_touched p sort t) env ≡ cond (is_finite p sort) true (is_denoted (problem_of p) m sort (value_of m env t))
  first_true = by (is_finite p sort)
    where
      by : (b : Bool) → truth_in m (cond b True (Or (gathered (same_constant sort t) 0 p.symbols ++ gathered (same_witness sort t) 0 p.witnesses))) env ≡ cond b true (is_denoted (problem_of p) m sort (value_of m env t))
      by true = simp folds_at refl
      by false = simp folds_at (any_true-append m (gathered (same_constant sort t) 0 p.symbols) (gathered (same_witness sort t) 0 p.witnesses) env ∙ ap₂ (λ a b. a || b) constants witnesses)
