-- Induction over formulas, a case for each constructor.
use Rattle.std.proofs.Common.{List, [], ◌∷◌, map, sym, subst}
use Rattle.lv_formula.specs.declared.symbols.SortId.{SortId}
use Rattle.lv_formula.specs.declared.symbols.Sym.{Sym}
use Rattle.lv_formula.specs.declared.terms.Term.{Term}
use Rattle.lv_formula.specs.declared.formula.Formula.{Formula}
use Rattle.lv_formula.specs.declared.formula.Formula.TheOpen.{Formula-F}
use Rattle.lv_formula.specs.declared.formula.Formula.TheViews.{roll-Formula}
use Rattle.lv_formula.specs.declared.formula.Formula.TheVariants.{True, False, Atom, Same, Not, And, Or, Implies, Iff, All, Any, rolls-True, rolls-False, rolls-Atom, rolls-Same, rolls-Not, rolls-And, rolls-Or, rolls-Implies, rolls-Iff, rolls-All, rolls-Any}
use Rattle.lv_formula.specs.declared.formula.Formula.TheFolds.{map-Formula, ind-Formula}

-- it holds of each of them
abbrev pub Each : {X : Type 0} → (X → Type 0) → List X → Type 0
Each P [] = Unit {0}
Each P (x ∷ xs) = P x × Each P xs

pub each_of : {X : Type 0} (P : X → Type 0) (es : List ((x : X) × P x)) → Each P (map (λ e. e.0) es)
each_of P [] = tt
each_of P (e ∷ es) = (e.1, each_of P es)

-- what an induction shows at each constructor
pub record Cases (P : Formula → Type 0) : Type 0 where
  pub at_true : P True
  pub at_false : P False
  pub at_atom : (s : Sym) (ts : List Term) → P (Atom s ts)
  pub at_same : (a b : Term) → P (Same a b)
  pub at_not : (f : Formula) → P f → P (Not f)
  pub at_and : (fs : List Formula) → Each P fs → P (And fs)
  pub at_or : (fs : List Formula) → Each P fs → P (Or fs)
  pub at_implies : (f g : Formula) → P f → P g → P (Implies f g)
  pub at_iff : (f g : Formula) → P f → P g → P (Iff f g)
  pub at_all : (s : SortId) (f : Formula) → P f → P (All s f)
  pub at_any : (s : SortId) (f : Formula) → P f → P (Any s f)

module _ (P : Formula → Type 0) where
  abbrev Such : Type 0
  Such = (f : Formula) × P f

  by_layer : Cases P → (y : Formula-F Such) → P (roll-Formula (map-Formula Such Formula (λ e. e.0) y))
  by_layer c Formula-F.True = subst P (sym rolls-True) c.at_true
  by_layer c Formula-F.False = subst P (sym rolls-False) c.at_false
  by_layer c (Formula-F.Atom s ts) = subst P (sym (rolls-Atom s ts)) (c.at_atom s ts)
  by_layer c (Formula-F.Same a b) = subst P (sym (rolls-Same a b)) (c.at_same a b)
  by_layer c (Formula-F.Not e) = subst P (sym (rolls-Not e.0)) (c.at_not e.0 e.1)
  by_layer c (Formula-F.And es) = subst P (sym (rolls-And (map (λ e. e.0) es))) (c.at_and (map (λ e. e.0) es) (each_of P es))
  by_layer c (Formula-F.Or es) = subst P (sym (rolls-Or (map (λ e. e.0) es))) (c.at_or (map (λ e. e.0) es) (each_of P es))
  by_layer c (Formula-F.Implies e d) = subst P (sym (rolls-Implies e.0 d.0)) (c.at_implies e.0 d.0 e.1 d.1)
  by_layer c (Formula-F.Iff e d) = subst P (sym (rolls-Iff e.0 d.0)) (c.at_iff e.0 d.0 e.1 d.1)
  by_layer c (Formula-F.All s e) = subst P (sym (rolls-All s e.0)) (c.at_all s e.0 e.1)
  by_layer c (Formula-F.Any s e) = subst P (sym (rolls-Any s e.0)) (c.at_any s e.0 e.1)

  -- what holds at each constructor holds of every formula
  pub by_cases : Cases P → (f : Formula) → P f
  by_cases c = ind-Formula P (λ x y is. subst (λ z. P (roll-Formula z)) is (by_layer c y))
