-- Induction over temporal formulas, a case for each constructor.
use Rattle.std.proofs.Common.{List, map, sym, subst}
use Rattle.lv_formula.proofs.Induction.{Each, each_of}
use Rattle.lv_formula.specs.declared.symbols.SortId.{SortId}
use Rattle.lv_formula.specs.declared.symbols.Sym.{Sym}
use Rattle.lv_formula.specs.declared.terms.Term.{Term}
use Rattle.lv_formula.specs.declared.temporal.Temporal.{Temporal}
use Rattle.lv_formula.specs.declared.temporal.Temporal.TheOpen.{Temporal-F}
use Rattle.lv_formula.specs.declared.temporal.Temporal.TheViews.{roll-Temporal}
use Rattle.lv_formula.specs.declared.temporal.Temporal.TheVariants.{True, False, Atom, Same, Not, And, Or, Implies, Iff, All, Any, Always, Eventually, rolls-True, rolls-False, rolls-Atom, rolls-Same, rolls-Not, rolls-And, rolls-Or, rolls-Implies, rolls-Iff, rolls-All, rolls-Any, rolls-Always, rolls-Eventually}
use Rattle.lv_formula.specs.declared.temporal.Temporal.TheFolds.{map-Temporal, ind-Temporal}

-- what an induction shows at each constructor
pub record Cases (P : Temporal → Type 0) : Type 0 where
  pub at_true : P True
  pub at_false : P False
  pub at_atom : (s : Sym) (ts : List Term) → P (Atom s ts)
  pub at_same : (a b : Term) → P (Same a b)
  pub at_not : (f : Temporal) → P f → P (Not f)
  pub at_and : (fs : List Temporal) → Each P fs → P (And fs)
  pub at_or : (fs : List Temporal) → Each P fs → P (Or fs)
  pub at_implies : (f g : Temporal) → P f → P g → P (Implies f g)
  pub at_iff : (f g : Temporal) → P f → P g → P (Iff f g)
  pub at_all : (s : SortId) (f : Temporal) → P f → P (All s f)
  pub at_any : (s : SortId) (f : Temporal) → P f → P (Any s f)
  pub at_always : (f : Temporal) → P f → P (Always f)
  pub at_eventually : (f : Temporal) → P f → P (Eventually f)

module _ (P : Temporal → Type 0) where
  abbrev Such : Type 0
  Such = (f : Temporal) × P f

  by_layer : Cases P → (y : Temporal-F Such) → P (roll-Temporal (map-Temporal Such Temporal (λ e. e.0) y))
  by_layer c Temporal-F.True = subst P (sym rolls-True) c.at_true
  by_layer c Temporal-F.False = subst P (sym rolls-False) c.at_false
  by_layer c (Temporal-F.Atom s ts) = subst P (sym (rolls-Atom s ts)) (c.at_atom s ts)
  by_layer c (Temporal-F.Same a b) = subst P (sym (rolls-Same a b)) (c.at_same a b)
  by_layer c (Temporal-F.Not e) = subst P (sym (rolls-Not e.0)) (c.at_not e.0 e.1)
  by_layer c (Temporal-F.And es) = subst P (sym (rolls-And (map (λ e. e.0) es))) (c.at_and (map (λ e. e.0) es) (each_of P es))
  by_layer c (Temporal-F.Or es) = subst P (sym (rolls-Or (map (λ e. e.0) es))) (c.at_or (map (λ e. e.0) es) (each_of P es))
  by_layer c (Temporal-F.Implies e d) = subst P (sym (rolls-Implies e.0 d.0)) (c.at_implies e.0 d.0 e.1 d.1)
  by_layer c (Temporal-F.Iff e d) = subst P (sym (rolls-Iff e.0 d.0)) (c.at_iff e.0 d.0 e.1 d.1)
  by_layer c (Temporal-F.All s e) = subst P (sym (rolls-All s e.0)) (c.at_all s e.0 e.1)
  by_layer c (Temporal-F.Any s e) = subst P (sym (rolls-Any s e.0)) (c.at_any s e.0 e.1)
  by_layer c (Temporal-F.Always e) = subst P (sym (rolls-Always e.0)) (c.at_always e.0 e.1)
  by_layer c (Temporal-F.Eventually e) = subst P (sym (rolls-Eventually e.0)) (c.at_eventually e.0 e.1)

  -- what holds at each constructor holds of every temporal formula
  pub by_cases : Cases P → (f : Temporal) → P f
  by_cases c = ind-Temporal P (λ x y is. subst (λ z. P (roll-Temporal z)) is (by_layer c y))
