-- The truth of a normal form is that of the formula, or of its negation.
use Rattle.std.proofs.Common.{◌≡◌, ℕ, zero, suc, Bool, true, false, not, ◌&&◌, ◌||◌, List, [], ◌∷◌, refl, sym, ap, ap₂, ◌∙◌}
use Rattle.lv_formula.specs.declared.symbols.SortId.{SortId}
use Rattle.lv_formula.specs.declared.symbols.Sym.{Sym}
use Rattle.lv_formula.specs.declared.terms.Term.{Term}
use Rattle.lv_formula.specs.declared.formula.Formula.{Formula}
use Rattle.lv_formula.specs.declared.formula.Formula.TheVariants.{True, False, Atom, Same, Not, And, Or, Implies, Iff, All, Any}
use Rattle.lv_formula.proofs.Folds.{folds_at}
use Rattle.lv_formula.proofs.Induction.{Each, by_cases}
use Rattle.lv_formula.specs.Meaning.{Meaning}
use Rattle.lv_formula.specs.Truth.{Env, truth_in, all_true_in, any_true_in, all_below, any_below, iff}
use Rattle.lv_rewrite.specs.Normal.{nnf_of, nnf_of_all, signed}

not-and : (a b : Bool) → not (a && b) ≡ (not a || not b)
not-and true b = refl
not-and false b = refl

not-or : (a b : Bool) → not (a || b) ≡ (not a && not b)
not-or true b = refl
not-or false b = refl

not-not : (a : Bool) → not (not a) ≡ a
not-not true = refl
not-not false = refl

not-all : (n : ℕ) (p : ℕ → Bool) → not (all_below n p) ≡ any_below n (λ x. not (p x))
not-all zero p = refl
not-all (suc n) p = not-and (all_below n p) (p n) ∙ ap (λ b. b || not (p n)) (not-all n p)

not-any : (n : ℕ) (p : ℕ → Bool) → not (any_below n p) ≡ all_below n (λ x. not (p x))
not-any zero p = refl
not-any (suc n) p = not-or (any_below n p) (p n) ∙ ap (λ b. b && not (p n)) (not-any n p)

implies_up : (a b : Bool) → (not a || (b || false)) ≡ (not a || b)
implies_up a true = refl
implies_up a false = refl

implies_down : (a b : Bool) → (a && (not b && true)) ≡ not (not a || b)
implies_down true true = refl
implies_down true false = refl
implies_down false b = refl

iff_up : (a b : Bool) → ((not a || (b || false)) && ((not b || (a || false)) && true)) ≡ iff a b
iff_up true true = refl
iff_up true false = refl
iff_up false true = refl
iff_up false false = refl

iff_down : (a b : Bool) → ((a || (b || false)) && ((not a || (not b || false)) && true)) ≡ not (iff a b)
iff_down true true = refl
iff_down true false = refl
iff_down false true = refl
iff_down false false = refl

module _ (m : Meaning) where
  abbrev Signed : Formula → Type 0
  Signed f = (sign : Bool) (env : Env) → truth_in m (nnf_of f sign) env ≡ signed sign (truth_in m f env)

  all_up : (fs : List Formula) → Each Signed fs → (env : Env) → all_true_in m (nnf_of_all fs true) env ≡ all_true_in m fs env
  all_up [] each env = refl
  all_up (f ∷ fs) each env = ap₂ (λ a b. a && b) (each.0 true env) (all_up fs each.1 env)

  any_up : (fs : List Formula) → Each Signed fs → (env : Env) → any_true_in m (nnf_of_all fs true) env ≡ any_true_in m fs env
  any_up [] each env = refl
  any_up (f ∷ fs) each env = ap₂ (λ a b. a || b) (each.0 true env) (any_up fs each.1 env)

  all_down : (fs : List Formula) → Each Signed fs → (env : Env) → any_true_in m (nnf_of_all fs false) env ≡ not (all_true_in m fs env)
  all_down [] each env = refl
  all_down (f ∷ fs) each env = ap₂ (λ a b. a || b) (each.0 false env) (all_down fs each.1 env) ∙ sym (not-and (truth_in m f env) (all_true_in m fs env))

  any_down : (fs : List Formula) → Each Signed fs → (env : Env) → all_true_in m (nnf_of_all fs false) env ≡ not (any_true_in m fs env)
  any_down [] each env = refl
  any_down (f ∷ fs) each env = ap₂ (λ a b. a && b) (each.0 false env) (any_down fs each.1 env) ∙ sym (not-or (truth_in m f env) (any_true_in m fs env))

  at_true : Signed True
  at_true true env = simp folds_at refl
  at_true false env = simp folds_at refl

  at_false : Signed False
  at_false true env = simp folds_at refl
  at_false false env = simp folds_at refl

  at_atom : (s : Sym) (ts : List Term) → Signed (Atom s ts)
  at_atom s ts true env = simp folds_at refl
  at_atom s ts false env = simp folds_at refl

  at_same : (a b : Term) → Signed (Same a b)
  at_same a b true env = simp folds_at refl
  at_same a b false env = simp folds_at refl

  at_not : (f : Formula) → Signed f → Signed (Not f)
  at_not f ih true env = simp folds_at (ih false env)
  at_not f ih false env = simp folds_at (ih true env ∙ sym (not-not (truth_in m f env)))

  at_and : (fs : List Formula) → Each Signed fs → Signed (And fs)
  at_and fs each true env = simp folds_at (all_up fs each env)
  at_and fs each false env = simp folds_at (all_down fs each env)

  at_or : (fs : List Formula) → Each Signed fs → Signed (Or fs)
  at_or fs each true env = simp folds_at (any_up fs each env)
  at_or fs each false env = simp folds_at (any_down fs each env)

  at_implies : (f g : Formula) → Signed f → Signed g → Signed (Implies f g)
  at_implies f g ihf ihg true env =
      simp folds_at (ap₂ (λ a b. a || (b || false)) (ihf false env) (ihg true env) ∙ implies_up (truth_in m f env) (truth_in m g env))
  at_implies f g ihf ihg false env =
      simp folds_at (ap₂ (λ a b. a && (b && true)) (ihf true env) (ihg false env) ∙ implies_down (truth_in m f env) (truth_in m g env))

  at_iff : (f g : Formula) → Signed f → Signed g → Signed (Iff f g)
  at_iff f g ihf ihg true env = simp folds_at (
      ap₂ (λ a b. a && (b && true)) (ap₂ (λ a b. a || (b || false)) (ihf false env) (ihg true env))
      (ap₂ (λ a b. a || (b || false)) (ihg false env) (ihf true env))
      ∙ iff_up (truth_in m f env) (truth_in m g env))
  at_iff f g ihf ihg false env = simp folds_at (
      ap₂ (λ a b. a && (b && true)) (ap₂ (λ a b. a || (b || false)) (ihf true env) (ihg true env))
      (ap₂ (λ a b. a || (b || false)) (ihf false env) (ihg false env))
      ∙ iff_down (truth_in m f env) (truth_in m g env))

  at_all : (s : SortId) (f : Formula) → Signed f → Signed (All s f)
  at_all s f ih true env = simp folds_at (λ i. all_below (m.size s) (λ x. ih true (x ∷ env) i))
  at_all s f ih false env = simp folds_at ((λ i. any_below (m.size s) (λ x. ih false (x ∷ env) i)) ∙ sym (not-all (m.size s) (λ x. truth_in m f (x ∷ env))))

  at_any : (s : SortId) (f : Formula) → Signed f → Signed (Any s f)
  at_any s f ih true env = simp folds_at (λ i. any_below (m.size s) (λ x. ih true (x ∷ env) i))
  at_any s f ih false env = simp folds_at ((λ i. all_below (m.size s) (λ x. ih false (x ∷ env) i)) ∙ sym (not-any (m.size s) (λ x. truth_in m f (x ∷ env))))

  pub truth_nnf : (f : Formula) → Signed f
  truth_nnf = by_cases Signed (record {
    at_true = at_true;
    at_false = at_false;
    at_atom = at_atom;
    at_same = at_same;
    at_not = at_not;
    at_and = at_and;
    at_or = at_or;
    at_implies = at_implies;
    at_iff = at_iff;
    at_all = at_all;
    at_any = at_any;
  })
