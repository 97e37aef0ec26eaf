-- What a fold over formulas gives at each constructor.
use Rattle.std.proofs.Common.{◌≡◌, List, map, sym, ap, ◌∙◌}
use Rattle.lv_formula.specs.declared.symbols.SortId.{SortId}
use Rattle.lv_formula.specs.declared.symbols.Sym.{Sym}
use Rattle.lv_formula.specs.declared.terms.Term.{Term}
use Rattle.lv_formula.specs.declared.formula.Formula.{Formula}
use Rattle.lv_formula.specs.declared.formula.Formula.TheOpen.{Formula-F}
use Rattle.lv_formula.specs.declared.formula.Formula.TheVariants.{True, False, Atom, Same, Not, And, Or, Implies, Iff, All, Any, rolls-True, rolls-False, rolls-Atom, rolls-Same, rolls-Not, rolls-And, rolls-Or, rolls-Implies, rolls-Iff, rolls-All, rolls-Any}
use Rattle.lv_formula.specs.declared.formula.Formula.TheFolds.{fold-Formula, fold-roll-Formula}

module _ (A : Type 0) (step : Formula-F A → A) where
  abbrev fold : Formula → A
  fold = fold-Formula A step

  pub fold-True : fold-Formula A step True ≡ step Formula-F.True
  fold-True = ap fold (sym rolls-True) ∙ fold-roll-Formula A step Formula-F.True

  pub fold-False : fold-Formula A step False ≡ step Formula-F.False
  fold-False = ap fold (sym rolls-False) ∙ fold-roll-Formula A step Formula-F.False

  pub fold-Atom : (s : Sym) (ts : List Term) → fold-Formula A step (Atom s ts) ≡ step (Formula-F.Atom s ts)
  fold-Atom s ts = ap fold (sym (rolls-Atom s ts)) ∙ fold-roll-Formula A step (Formula-F.Atom s ts)

  pub fold-Same : (a b : Term) → fold-Formula A step (Same a b) ≡ step (Formula-F.Same a b)
  fold-Same a b = ap fold (sym (rolls-Same a b)) ∙ fold-roll-Formula A step (Formula-F.Same a b)

  pub fold-Not : (f : Formula) → fold-Formula A step (Not f) ≡ step (Formula-F.Not (fold-Formula A step f))
  fold-Not f = ap fold (sym (rolls-Not f)) ∙ fold-roll-Formula A step (Formula-F.Not f)

  pub fold-And : (fs : List Formula) → fold-Formula A step (And fs) ≡ step (Formula-F.And (map (fold-Formula A step) fs))
  fold-And fs = ap fold (sym (rolls-And fs)) ∙ fold-roll-Formula A step (Formula-F.And fs)

  pub fold-Or : (fs : List Formula) → fold-Formula A step (Or fs) ≡ step (Formula-F.Or (map (fold-Formula A step) fs))
  fold-Or fs = ap fold (sym (rolls-Or fs)) ∙ fold-roll-Formula A step (Formula-F.Or fs)

  pub fold-Implies : (f g : Formula) → fold-Formula A step (Implies f g) ≡ step (Formula-F.Implies (fold-Formula A step f) (fold-Formula A step g))
  fold-Implies f g = ap fold (sym (rolls-Implies f g)) ∙ fold-roll-Formula A step (Formula-F.Implies f g)

  pub fold-Iff : (f g : Formula) → fold-Formula A step (Iff f g) ≡ step (Formula-F.Iff (fold-Formula A step f) (fold-Formula A step g))
  fold-Iff f g = ap fold (sym (rolls-Iff f g)) ∙ fold-roll-Formula A step (Formula-F.Iff f g)

  pub fold-All : (s : SortId) (f : Formula) → fold-Formula A step (All s f) ≡ step (Formula-F.All s (fold-Formula A step f))
  fold-All s f = ap fold (sym (rolls-All s f)) ∙ fold-roll-Formula A step (Formula-F.All s f)

  pub fold-Any : (s : SortId) (f : Formula) → fold-Formula A step (Any s f) ≡ step (Formula-F.Any s (fold-Formula A step f))
  fold-Any s f = ap fold (sym (rolls-Any s f)) ∙ fold-roll-Formula A step (Formula-F.Any s f)

-- The same for a fold into functions, at an argument.
module _ (A B : Type 0) (step : Formula-F (B → A) → B → A) where
  pub fold_at-True : (b : B) → fold-Formula (B → A) step True b ≡ step Formula-F.True b
  fold_at-True b = ap (λ g. g b) (fold-True (B → A) step)

  pub fold_at-False : (b : B) → fold-Formula (B → A) step False b ≡ step Formula-F.False b
  fold_at-False b = ap (λ g. g b) (fold-False (B → A) step)

  pub fold_at-Atom : (s : Sym) (ts : List Term) (b : B) → fold-Formula (B → A) step (Atom s ts) b ≡ step (Formula-F.Atom s ts) b
  fold_at-Atom s ts b = ap (λ g. g b) (fold-Atom (B → A) step s ts)

  pub fold_at-Same : (x y : Term) (b : B) → fold-Formula (B → A) step (Same x y) b ≡ step (Formula-F.Same x y) b
  fold_at-Same x y b = ap (λ g. g b) (fold-Same (B → A) step x y)

  pub fold_at-Not : (f : Formula) (b : B) → fold-Formula (B → A) step (Not f) b ≡ step (Formula-F.Not (fold-Formula (B → A) step f)) b
  fold_at-Not f b = ap (λ g. g b) (fold-Not (B → A) step f)

  pub fold_at-And : (fs : List Formula) (b : B) → fold-Formula (B → A) step (And fs) b ≡ step (Formula-F.And (map (fold-Formula (B → A) step) fs)) b
  fold_at-And fs b = ap (λ g. g b) (fold-And (B → A) step fs)

  pub fold_at-Or : (fs : List Formula) (b : B) → fold-Formula (B → A) step (Or fs) b ≡ step (Formula-F.Or (map (fold-Formula (B → A) step) fs)) b
  fold_at-Or fs b = ap (λ g. g b) (fold-Or (B → A) step fs)

  pub fold_at-Implies : (f g : Formula) (b : B) → fold-Formula (B → A) step (Implies f g) b ≡ step (Formula-F.Implies (fold-Formula (B → A) step f) (fold-Formula (B → A) step g)) b
  fold_at-Implies f g b = ap (λ h. h b) (fold-Implies (B → A) step f g)

  pub fold_at-Iff : (f g : Formula) (b : B) → fold-Formula (B → A) step (Iff f g) b ≡ step (Formula-F.Iff (fold-Formula (B → A) step f) (fold-Formula (B → A) step g)) b
  fold_at-Iff f g b = ap (λ h. h b) (fold-Iff (B → A) step f g)

  pub fold_at-All : (s : SortId) (f : Formula) (b : B) → fold-Formula (B → A) step (All s f) b ≡ step (Formula-F.All s (fold-Formula (B → A) step f)) b
  fold_at-All s f b = ap (λ h. h b) (fold-All (B → A) step s f)

  pub fold_at-Any : (s : SortId) (f : Formula) (b : B) → fold-Formula (B → A) step (Any s f) b ≡ step (Formula-F.Any s (fold-Formula (B → A) step f)) b
  fold_at-Any s f b = ap (λ h. h b) (fold-Any (B → A) step s f)

pub ruleset folds = (fold-True, fold-False, fold-Atom, fold-Same, fold-Not, fold-And, fold-Or, fold-Implies, fold-Iff, fold-All, fold-Any)

pub ruleset folds_at = (fold_at-True, fold_at-False, fold_at-Atom, fold_at-Same, fold_at-Not, fold_at-And, fold_at-Or, fold_at-Implies, fold_at-Iff, fold_at-All, fold_at-Any)
