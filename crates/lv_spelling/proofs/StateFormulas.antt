-- Formulas of a state as temporal formulas: nothing is lost, and where no temporal operator may stand there is none.
use Rattle.std.proofs.Common.{◌≡◌, ℕ, true, false, List, [], ◌∷◌, refl, sym, ap, ap₂, ◌∙◌}
use Rattle.lv_tree.specs.declared.tree.Tree.{Tree}
use Rattle.lv_formula.specs.declared.formula.Formula.{Formula}
use Rattle.lv_formula.specs.declared.formula.Formula.TheVariants as F
use Rattle.lv_formula.specs.declared.temporal.Temporal.{Temporal}
use Rattle.lv_formula.specs.declared.temporal.Temporal.TheVariants as T
use Rattle.lv_formula.proofs.Folds as StateFolds
use Rattle.lv_formula.proofs.TemporalFolds as Folds
use Rattle.lv_formula.proofs.Induction.{Cases, Each, by_cases}
use Rattle.lv_grammar.specs.declared.reading.Role.{Role}
use Rattle.lv_grammar.specs.Lifted.{lifted, lifted_all}
use Rattle.lv_grammar.specs.Words.{Variable}
use Rattle.lv_grammar.specs.Known.{Known, is_temporal}
use Rattle.lv_grammar.specs.ReadFormulas.{state_formula, state_formulas}
use Rattle.lv_grammar.specs.Rules.{IsFormula, truth, falsity, bare_atom, atom, equation, negation, conjunction, disjunction, implication, equivalence, universal, existential, always, eventually, AreFormulas, no_formulas, formulas}

abbrev Returns : Formula → Type 0
Returns f = state_formula (lifted f) ≡ f

all_return : (fs : List Formula) → Each Returns fs → state_formulas (lifted_all fs) ≡ fs
all_return [] each = refl
all_return (f ∷ fs) each = ap₂ (λ z zs. z ∷ zs) each.0 (all_return fs each.1)

return_cases : Cases Returns
return_cases = record {
  at_true = simp (StateFolds.folds, Folds.folds) refl;
  at_false = simp (StateFolds.folds, Folds.folds) refl;
  at_atom = λ r ts. simp (StateFolds.folds, Folds.folds) refl;
  at_same = λ a b. simp (StateFolds.folds, Folds.folds) refl;
  at_not = λ f ih. simp (StateFolds.folds, Folds.folds) (ap F.Not ih);
  at_and = λ fs each. simp (StateFolds.folds, Folds.folds) (ap F.And (all_return fs each));
  at_or = λ fs each. simp (StateFolds.folds, Folds.folds) (ap F.Or (all_return fs each));
  at_implies = λ f g ihf ihg. simp (StateFolds.folds, Folds.folds) (ap₂ F.Implies ihf ihg);
  at_iff = λ f g ihf ihg. simp (StateFolds.folds, Folds.folds) (ap₂ F.Iff ihf ihg);
  at_all = λ s f ih. simp (StateFolds.folds, Folds.folds) (ap (F.All s) ih);
  at_any = λ s f ih. simp (StateFolds.folds, Folds.folds) (ap (F.Any s) ih);
}

pub lifted_back : (f : Formula) → state_formula (lifted f) ≡ f
lifted_back = by_cases Returns return_cases

module _ {k : Known} {role : Role} where
  mutual
    pub plain : {room iffs : ℕ} {vs : List Variable} {f : Temporal} {t : Tree} → is_temporal role ≡ false → IsFormula k role room iffs vs f t → lifted (state_formula f) ≡ f
    plain h (truth is) = simp (Folds.folds, StateFolds.folds) refl
    plain h (falsity is) = simp (Folds.folds, StateFolds.folds) refl
    plain h (bare_atom text is says) = simp (Folds.folds, StateFolds.folds) refl
    plain h (atom text a as' b says are) = simp (Folds.folds, StateFolds.folds) refl
    plain h (equation a b begins x y) = simp (Folds.folds, StateFolds.folds) refl
    plain h (negation a b is) = simp (Folds.folds, StateFolds.folds) (ap T.Not (plain h is))
    plain h (conjunction as' b are) = simp (Folds.folds, StateFolds.folds) (ap T.And (all_plain h are))
    plain h (disjunction as' b are) = simp (Folds.folds, StateFolds.folds) (ap T.Or (all_plain h are))
    plain h (implication a b c x y) = simp (Folds.folds, StateFolds.folds) (ap₂ T.Implies (plain h x) (plain h y))
    plain h (equivalence a b c x y) = simp (Folds.folds, StateFolds.folds) (ap₂ T.Iff (plain h x) (plain h y))
    plain h (universal x v r a b binds is) = simp (Folds.folds, StateFolds.folds) (ap (T.All x.sort) (plain h is))
    plain h (existential x v r a b binds is) = simp (Folds.folds, StateFolds.folds) (ap (T.Any x.sort) (plain h is))
    plain h (always a b may is) = let z : true ≡ false = sym may ∙ h in absurd cc
    plain h (eventually a b may is) = let z : true ≡ false = sym may ∙ h in absurd cc

    all_plain : {room iffs : ℕ} {vs : List Variable} {fs : List Temporal} {ts : List Tree} → is_temporal role ≡ false → AreFormulas k role room iffs vs fs ts → lifted_all (state_formulas fs) ≡ fs
    all_plain h no_formulas = refl
    all_plain h (formulas is are) = ap₂ (λ z zs. z ∷ zs) (plain h is) (all_plain h are)
