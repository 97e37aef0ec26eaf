-- Whole formulas are read exactly where they are within the limits.
use Rattle.std.proofs.Common.{◌≡◌, ℕ, ◌≤◌, true, false, leb, ltb, List, [], ◌∷◌, refl, sym, ap, subst, ◌∙◌}
use Rattle.std.proofs.lemmas.Bool.{leb-true, le-leb, le-ltb, ltb-false}
use Rattle.lv_tree.specs.declared.tree.Tree.{Tree}
use Rattle.lv_formula.specs.declared.formula.Formula.{Formula}
use Rattle.lv_formula.specs.declared.temporal.Temporal.{Temporal}
use Rattle.lv_formula.specs.TemporalMeasures.{temporal_nodes_of}
use Rattle.lv_grammar.specs.declared.reading.Role.{Role}
use Rattle.lv_grammar.specs.Lifted.{lifted}
use Rattle.lv_grammar.specs.Words.{Variable}
use Rattle.lv_grammar.specs.Known.{Known, is_temporal}
use Rattle.lv_grammar.specs.ReadFormulas.{formula_of, temporal_in, state_formula, formula_in, lone_formula}
use Rattle.lv_grammar.specs.Rules.{IsWhole, IsState}
use Rattle.lv_grammar.proofs.Steps.{done, ok_is, bound, passed, nothing_left, one_more}
use Rattle.lv_spelling.proofs.FormulaRules.{formula_is}
use Rattle.lv_spelling.proofs.FormulaReplay.{formula_again}
use Rattle.lv_spelling.proofs.StateFormulas.{lifted_back, plain}

module _ (k : Known) (role : Role) where
  pub temporal_is : (room : ℕ) (vs : List Variable) (t : Tree) (f : Temporal) → temporal_in k role room vs t ≡ done f → IsWhole k role room vs f t
  unfolding temporal_in
  temporal_is room vs t f e =
      let g = bound (formula_of k role room 2 vs t) _ f e in
      let q = passed (ltb 1024 (temporal_nodes_of g.0)) _ _ _ f g.2 in
      subst (λ z. IsWhole k role room vs z t) (ok_is g.0 f q.1)
      (record { formula = formula_is k role room 2 vs t g.0 g.1; counted = le-leb (temporal_nodes_of g.0) 1024 (ltb-false 1024 (temporal_nodes_of g.0) q.0) })

  pub temporal_again : (room : ℕ) (vs : List Variable) (f : Temporal) (t : Tree) → IsWhole k role room vs f t → temporal_in k role room vs t ≡ done f
  unfolding temporal_in
  temporal_again room vs f t is = rw (formula_again k role room 2 vs f t is.formula, le-ltb 1024 (temporal_nodes_of f) (leb-true (temporal_nodes_of f) 1024 is.counted)) refl

  module _ (state : is_temporal role ≡ false) where
    pub state_is : (room : ℕ) (vs : List Variable) (t : Tree) (f : Formula) → formula_in k role room vs t ≡ done f → IsState k role room vs f t
    unfolding formula_in
    state_is room vs t f e =
        let g = bound (temporal_in k role room vs t) _ f e in
        let is = temporal_is room vs t g.0 g.1 in
        subst (λ z. IsState k role room vs z t) (ok_is (state_formula g.0) f g.2) (subst (λ z. IsWhole k role room vs z t) (sym (plain state is.formula)) is)

    pub state_again : (room : ℕ) (vs : List Variable) (f : Formula) (t : Tree) → IsState k role room vs f t → formula_in k role room vs t ≡ done f
    unfolding formula_in
    state_again room vs f t is = rw (temporal_again room vs (lifted f) t is, lifted_back f) refl

    -- one formula, and nothing behind it
    pub lone_is : (room : ℕ) (vs : List Variable) (end : ℕ) (items : List Tree) (f : Formula) → lone_formula k role room vs end items ≡ done f → (a : Tree) × (items ≡ a ∷ []) × IsState k role room vs f a
    unfolding lone_formula
    lone_is room vs end items f e =
        let a = one_more end items _ f e in
        let g = bound (formula_in k role room vs a.0) _ f a.3 in
        let z = nothing_left a.1 _ f g.2 in
        (a.0, a.2 ∙ ap (λ ts. a.0 ∷ ts) z.0, subst (λ y. IsState k role room vs y a.0) (ok_is g.0 f z.1) (state_is room vs a.0 g.0 g.1))

    pub lone_again : (room : ℕ) (vs : List Variable) (end : ℕ) (a : Tree) (f : Formula) → IsState k role room vs f a → lone_formula k role room vs end (a ∷ []) ≡ done f
    unfolding lone_formula
    lone_again room vs end a f is = rw (state_again room vs f a is) refl
