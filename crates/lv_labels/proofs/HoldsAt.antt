-- What it says that a temporal formula holds at a position, constructor by constructor.
use Rattle.std.proofs.Common.{◌≡◌, ℕ, Bool, true, false, not, ◌||◌, eqb, List, ◌∷◌, map, ap}
use Rattle.lv_formula.specs.declared.symbols.SortId.{SortId}
use Rattle.lv_formula.specs.declared.symbols.Sym.{Sym}
use Rattle.lv_formula.specs.declared.terms.Term.{Term}
use Rattle.lv_formula.specs.declared.temporal.Temporal.{Temporal}
use Rattle.lv_formula.specs.declared.temporal.Temporal.TheVariants as T
use Rattle.lv_formula.proofs.TemporalFolds.{fold-True, fold-False, fold-Atom, fold-Same, fold-Not, fold-And, fold-Or, fold-Implies, fold-Iff, fold-All, fold-Any, fold-Always, fold-Eventually}
use Rattle.lv_formula.specs.Truth.{Env, value_of, values_of, all_below, any_below, iff}
use Rattle.lv_system.specs.TemporalTruth.{Lasso, holds, holds_step, at_each_later, with_witnesses, all_hold, any_holds}

module _ (l : Lasso) (witnesses : ℕ → ℕ) where
  abbrev At : Type 0
  At = ℕ → Env → Bool

  pub holds-True : (i : ℕ) (e : Env) → holds l witnesses T.True i e ≡ true
  holds-True i e = ap (λ g. g i e) (fold-True At (holds_step l witnesses))

  pub holds-False : (i : ℕ) (e : Env) → holds l witnesses T.False i e ≡ false
  holds-False i e = ap (λ g. g i e) (fold-False At (holds_step l witnesses))

  pub holds-Atom : (s : Sym) (ts : List Term) (i : ℕ) (e : Env) → holds l witnesses (T.Atom s ts) i e ≡ (l.state i).holds s (values_of (with_witnesses (l.state i) witnesses) e ts)
  holds-Atom s ts i e = ap (λ g. g i e) (fold-Atom At (holds_step l witnesses) s ts)

  pub holds-Same : (a b : Term) (i : ℕ) (e : Env) → holds l witnesses (T.Same a b) i e ≡ eqb (value_of (with_witnesses (l.state i) witnesses) e a) (value_of (with_witnesses (l.state i) witnesses) e b)
  holds-Same a b i e = ap (λ g. g i e) (fold-Same At (holds_step l witnesses) a b)

  pub holds-Not : (f : Temporal) (i : ℕ) (e : Env) → holds l witnesses (T.Not f) i e ≡ not (holds l witnesses f i e)
  holds-Not f i e = ap (λ g. g i e) (fold-Not At (holds_step l witnesses) f)

  pub holds-And : (fs : List Temporal) (i : ℕ) (e : Env) → holds l witnesses (T.And fs) i e ≡ all_hold (map (holds l witnesses) fs) i e
  holds-And fs i e = ap (λ g. g i e) (fold-And At (holds_step l witnesses) fs)

  pub holds-Or : (fs : List Temporal) (i : ℕ) (e : Env) → holds l witnesses (T.Or fs) i e ≡ any_holds (map (holds l witnesses) fs) i e
  holds-Or fs i e = ap (λ g. g i e) (fold-Or At (holds_step l witnesses) fs)

  pub holds-Implies : (f h : Temporal) (i : ℕ) (e : Env) → holds l witnesses (T.Implies f h) i e ≡ (not (holds l witnesses f i e) || holds l witnesses h i e)
  holds-Implies f h i e = ap (λ g. g i e) (fold-Implies At (holds_step l witnesses) f h)

  pub holds-Iff : (f h : Temporal) (i : ℕ) (e : Env) → holds l witnesses (T.Iff f h) i e ≡ iff (holds l witnesses f i e) (holds l witnesses h i e)
  holds-Iff f h i e = ap (λ g. g i e) (fold-Iff At (holds_step l witnesses) f h)

  pub holds-All : (s : SortId) (f : Temporal) (i : ℕ) (e : Env) → holds l witnesses (T.All s f) i e ≡ all_below ((l.state i).size s) (λ x. holds l witnesses f i (x ∷ e))
  holds-All s f i e = ap (λ g. g i e) (fold-All At (holds_step l witnesses) s f)

  pub holds-Any : (s : SortId) (f : Temporal) (i : ℕ) (e : Env) → holds l witnesses (T.Any s f) i e ≡ any_below ((l.state i).size s) (λ x. holds l witnesses f i (x ∷ e))
  holds-Any s f i e = ap (λ g. g i e) (fold-Any At (holds_step l witnesses) s f)

  pub holds-Always : (f : Temporal) (i : ℕ) (e : Env) → holds l witnesses (T.Always f) i e ≡ at_each_later l i (λ j. holds l witnesses f j e)
  holds-Always f i e = ap (λ g. g i e) (fold-Always At (holds_step l witnesses) f)

  pub holds-Eventually : (f : Temporal) (i : ℕ) (e : Env) → holds l witnesses (T.Eventually f) i e ≡ not (at_each_later l i (λ j. not (holds l witnesses f j e)))
  holds-Eventually f i e = ap (λ g. g i e) (fold-Eventually At (holds_step l witnesses) f)

pub ruleset held = (holds-True, holds-False, holds-Atom, holds-Same, holds-Not, holds-And, holds-Or, holds-Implies, holds-Iff, holds-All, holds-Any, holds-Always, holds-Eventually)
