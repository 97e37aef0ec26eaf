-- What a fold over temporal formulas gives at each constructor.
use Rattle.std.proofs.Common.{◌≡◌, List, map, sym, ap, ◌∙◌}
use Rattle.lv_formula.specs.declared.symbols.SortId.{SortId}
use Rattle.lv_formula.specs.declared.symbols.Sym.{Sym}
use Rattle.lv_formula.specs.declared.terms.Term.{Term}
use Rattle.lv_formula.specs.declared.temporal.Temporal.{Temporal}
use Rattle.lv_formula.specs.declared.temporal.Temporal.TheOpen.{Temporal-F}
use Rattle.lv_formula.specs.declared.temporal.Temporal.TheVariants.{True, False, Atom, Same, Not, And, Or, Implies, Iff, All, Any, Always, Eventually, rolls-True, rolls-False, rolls-Atom, rolls-Same, rolls-Not, rolls-And, rolls-Or, rolls-Implies, rolls-Iff, rolls-All, rolls-Any, rolls-Always, rolls-Eventually}
use Rattle.lv_formula.specs.declared.temporal.Temporal.TheFolds.{fold-Temporal, fold-roll-Temporal}

module _ (A : Type 0) (step : Temporal-F A → A) where
  abbrev fold : Temporal → A
  fold = fold-Temporal A step

  pub fold-True : fold-Temporal A step True ≡ step Temporal-F.True
  fold-True = ap fold (sym rolls-True) ∙ fold-roll-Temporal A step Temporal-F.True

  pub fold-False : fold-Temporal A step False ≡ step Temporal-F.False
  fold-False = ap fold (sym rolls-False) ∙ fold-roll-Temporal A step Temporal-F.False

  pub fold-Atom : (s : Sym) (ts : List Term) → fold-Temporal A step (Atom s ts) ≡ step (Temporal-F.Atom s ts)
  fold-Atom s ts = ap fold (sym (rolls-Atom s ts)) ∙ fold-roll-Temporal A step (Temporal-F.Atom s ts)

  pub fold-Same : (a b : Term) → fold-Temporal A step (Same a b) ≡ step (Temporal-F.Same a b)
  fold-Same a b = ap fold (sym (rolls-Same a b)) ∙ fold-roll-Temporal A step (Temporal-F.Same a b)

  pub fold-Not : (f : Temporal) → fold-Temporal A step (Not f) ≡ step (Temporal-F.Not (fold-Temporal A step f))
  fold-Not f = ap fold (sym (rolls-Not f)) ∙ fold-roll-Temporal A step (Temporal-F.Not f)

  pub fold-And : (fs : List Temporal) → fold-Temporal A step (And fs) ≡ step (Temporal-F.And (map (fold-Temporal A step) fs))
  fold-And fs = ap fold (sym (rolls-And fs)) ∙ fold-roll-Temporal A step (Temporal-F.And fs)

  pub fold-Or : (fs : List Temporal) → fold-Temporal A step (Or fs) ≡ step (Temporal-F.Or (map (fold-Temporal A step) fs))
  fold-Or fs = ap fold (sym (rolls-Or fs)) ∙ fold-roll-Temporal A step (Temporal-F.Or fs)

  pub fold-Implies : (f g : Temporal) → fold-Temporal A step (Implies f g) ≡ step (Temporal-F.Implies (fold-Temporal A step f) (fold-Temporal A step g))
  fold-Implies f g = ap fold (sym (rolls-Implies f g)) ∙ fold-roll-Temporal A step (Temporal-F.Implies f g)

  pub fold-Iff : (f g : Temporal) → fold-Temporal A step (Iff f g) ≡ step (Temporal-F.Iff (fold-Temporal A step f) (fold-Temporal A step g))
  fold-Iff f g = ap fold (sym (rolls-Iff f g)) ∙ fold-roll-Temporal A step (Temporal-F.Iff f g)

  pub fold-All : (s : SortId) (f : Temporal) → fold-Temporal A step (All s f) ≡ step (Temporal-F.All s (fold-Temporal A step f))
  fold-All s f = ap fold (sym (rolls-All s f)) ∙ fold-roll-Temporal A step (Temporal-F.All s f)

  pub fold-Any : (s : SortId) (f : Temporal) → fold-Temporal A step (Any s f) ≡ step (Temporal-F.Any s (fold-Temporal A step f))
  fold-Any s f = ap fold (sym (rolls-Any s f)) ∙ fold-roll-Temporal A step (Temporal-F.Any s f)

  pub fold-Always : (f : Temporal) → fold-Temporal A step (Always f) ≡ step (Temporal-F.Always (fold-Temporal A step f))
  fold-Always f = ap fold (sym (rolls-Always f)) ∙ fold-roll-Temporal A step (Temporal-F.Always f)

  pub fold-Eventually : (f : Temporal) → fold-Temporal A step (Eventually f) ≡ step (Temporal-F.Eventually (fold-Temporal A step f))
  fold-Eventually f = ap fold (sym (rolls-Eventually f)) ∙ fold-roll-Temporal A step (Temporal-F.Eventually f)

-- The same for a fold into functions, at an argument.
module _ (A B : Type 0) (step : Temporal-F (B → A) → B → A) where
  pub fold_at-True : (b : B) → fold-Temporal (B → A) step True b ≡ step Temporal-F.True b
  fold_at-True b = ap (λ g. g b) (fold-True (B → A) step)

  pub fold_at-False : (b : B) → fold-Temporal (B → A) step False b ≡ step Temporal-F.False b
  fold_at-False b = ap (λ g. g b) (fold-False (B → A) step)

  pub fold_at-Atom : (s : Sym) (ts : List Term) (b : B) → fold-Temporal (B → A) step (Atom s ts) b ≡ step (Temporal-F.Atom s ts) b
  fold_at-Atom s ts b = ap (λ g. g b) (fold-Atom (B → A) step s ts)

  pub fold_at-Same : (x y : Term) (b : B) → fold-Temporal (B → A) step (Same x y) b ≡ step (Temporal-F.Same x y) b
  fold_at-Same x y b = ap (λ g. g b) (fold-Same (B → A) step x y)

  pub fold_at-Not : (f : Temporal) (b : B) → fold-Temporal (B → A) step (Not f) b ≡ step (Temporal-F.Not (fold-Temporal (B → A) step f)) b
  fold_at-Not f b = ap (λ g. g b) (fold-Not (B → A) step f)

  pub fold_at-And : (fs : List Temporal) (b : B) → fold-Temporal (B → A) step (And fs) b ≡ step (Temporal-F.And (map (fold-Temporal (B → A) step) fs)) b
  fold_at-And fs b = ap (λ g. g b) (fold-And (B → A) step fs)

  pub fold_at-Or : (fs : List Temporal) (b : B) → fold-Temporal (B → A) step (Or fs) b ≡ step (Temporal-F.Or (map (fold-Temporal (B → A) step) fs)) b
  fold_at-Or fs b = ap (λ g. g b) (fold-Or (B → A) step fs)

  pub fold_at-Implies : (f g : Temporal) (b : B) → fold-Temporal (B → A) step (Implies f g) b ≡ step (Temporal-F.Implies (fold-Temporal (B → A) step f) (fold-Temporal (B → A) step g)) b
  fold_at-Implies f g b = ap (λ h. h b) (fold-Implies (B → A) step f g)

  pub fold_at-Iff : (f g : Temporal) (b : B) → fold-Temporal (B → A) step (Iff f g) b ≡ step (Temporal-F.Iff (fold-Temporal (B → A) step f) (fold-Temporal (B → A) step g)) b
  fold_at-Iff f g b = ap (λ h. h b) (fold-Iff (B → A) step f g)

  pub fold_at-All : (s : SortId) (f : Temporal) (b : B) → fold-Temporal (B → A) step (All s f) b ≡ step (Temporal-F.All s (fold-Temporal (B → A) step f)) b
  fold_at-All s f b = ap (λ h. h b) (fold-All (B → A) step s f)

  pub fold_at-Any : (s : SortId) (f : Temporal) (b : B) → fold-Temporal (B → A) step (Any s f) b ≡ step (Temporal-F.Any s (fold-Temporal (B → A) step f)) b
  fold_at-Any s f b = ap (λ h. h b) (fold-Any (B → A) step s f)

  pub fold_at-Always : (f : Temporal) (b : B) → fold-Temporal (B → A) step (Always f) b ≡ step (Temporal-F.Always (fold-Temporal (B → A) step f)) b
  fold_at-Always f b = ap (λ g. g b) (fold-Always (B → A) step f)

  pub fold_at-Eventually : (f : Temporal) (b : B) → fold-Temporal (B → A) step (Eventually f) b ≡ step (Temporal-F.Eventually (fold-Temporal (B → A) step f)) b
  fold_at-Eventually f b = ap (λ g. g b) (fold-Eventually (B → A) step f)

pub ruleset folds = (fold-True, fold-False, fold-Atom, fold-Same, fold-Not, fold-And, fold-Or, fold-Implies, fold-Iff, fold-All, fold-Any, fold-Always, fold-Eventually)

pub ruleset folds_at = (fold_at-True, fold_at-False, fold_at-Atom, fold_at-Same, fold_at-Not, fold_at-And, fold_at-Or, fold_at-Implies, fold_at-Iff, fold_at-All, fold_at-Any, fold_at-Always, fold_at-Eventually)
