-- Whole formulas fit where their words do.
use Rattle.std.proofs.Common.{◌≡◌, ℕ, ◌≤◌, true, false, ◌&&◌, leb, List, [], refl, sym, ap, ◌∙◌, arith}
use Rattle.std.proofs.lemmas.Bool.{and_from, le-leb, leb-true}
use Rattle.lv_tree.specs.declared.tree.Tree.{Tree}
use Rattle.lv_formula.specs.declared.formula.Formula.{Formula}
use Rattle.lv_formula.specs.declared.temporal.Temporal.{Temporal}
use Rattle.lv_formula.specs.declared.vocabulary.Vocabulary.{Vocabulary}
use Rattle.lv_formula.specs.Fits.{fits_in}
use Rattle.lv_formula.specs.Measures.{nodes_of}
use Rattle.lv_formula.specs.TemporalFits.{temporal_fits_in}
use Rattle.lv_formula.specs.TemporalMeasures.{temporal_nodes_of}
use Rattle.lv_system.specs.Fits.{formula_fits, temporal_fits}
use Rattle.lv_system.specs.Limits.{is_small, iffs_of, lists_of}
use Rattle.lv_system.specs.TemporalLimits.{is_small_temporal, temporal_iffs_of, temporal_lists_of}
use Rattle.lv_grammar.specs.declared.reading.Role.{Role}
use Rattle.lv_grammar.specs.Lifted.{lifted}
use Rattle.lv_grammar.specs.Words.{Variable}
use Rattle.lv_grammar.specs.Known.{Known}
use Rattle.lv_grammar.specs.Agrees.{Agrees}
use Rattle.lv_grammar.specs.Rules.{sorts_of, IsWhole, IsState}
use Rattle.lv_fitting.proofs.FormulaFits.{deep, nested, fits}
use Rattle.lv_fitting.proofs.StateFits.{fits_alike, same_nodes, same_iffs, same_lists}

module _ (k : Known) (role : Role) where
  pub whole_small : (vs : List Variable) (f : Temporal) (t : Tree) → IsWhole k role 58 vs f t → is_small_temporal f ≡ true
  whole_small vs f t is = and_from (leb (temporal_nodes_of f) 1024) _ is.counted
      (and_from (leb (temporal_iffs_of f) 2) _ (le-leb (temporal_iffs_of f) 2 (nested is.formula)) (le-leb (temporal_lists_of f) 58 (deep is.formula)))

  pub state_small : (room : ℕ) (vs : List Variable) (f : Formula) (t : Tree) → IsState k role room vs f t → is_small room f ≡ true
  state_small room vs f t is =
      let nodes = same_nodes f in
      let counted = leb-true (temporal_nodes_of (lifted f)) 1024 is.counted in
      let iffs = same_iffs f in
      let deep-iffs = nested is.formula in
      let lists = same_lists f in
      let deep-lists = deep is.formula in
      and_from (leb (nodes_of f) 1024) _ (le-leb (nodes_of f) 1024 (omega (arith, nodes, counted)))
      (and_from (leb (iffs_of f) 2) _ (le-leb (iffs_of f) 2 (omega (arith, iffs, deep-iffs))) (le-leb (lists_of f) room (omega (arith, lists, deep-lists))))

  module _ (voc : Vocabulary) (g : Agrees k role voc) where
    pub whole_fits : (vs : List Variable) (f : Temporal) (t : Tree) → IsWhole k role 58 vs f t → temporal_fits voc (sorts_of vs) f ≡ true
    whole_fits vs f t is = and_from (is_small_temporal f) _ (whole_small vs f t is) (fits voc g is.formula)

    pub state_in : (room : ℕ) (vs : List Variable) (f : Formula) (t : Tree) → IsState k role room vs f t → fits_in voc (sorts_of vs) f ≡ true
    state_in room vs f t is = sym (fits_alike voc f (sorts_of vs)) ∙ fits voc g is.formula

    pub state_fits : (room : ℕ) (vs : List Variable) (f : Formula) (t : Tree) → IsState k role room vs f t → formula_fits room voc (sorts_of vs) f ≡ true
    state_fits room vs f t is = and_from (is_small room f) _ (state_small room vs f t is) (state_in room vs f t is)
