-- Truth depends on nothing but what the vocabulary of the formula names.
use Rattle.std.proofs.Common.{◌≡◌, ℕ, true, not, ◌&&◌, ◌||◌, eqb, ltb, List, [], ◌∷◌, Option, Some, None, refl, ap, ap₂, ◌∙◌}
use Rattle.std.proofs.lemmas.Bool.{and_parts}
use Rattle.lv_formula.specs.declared.symbols.SortId.{SortId}
use Rattle.lv_formula.specs.declared.symbols.Sym.{Sym}
use Rattle.lv_formula.specs.declared.terms.Term.{Term}
use Rattle.lv_formula.specs.declared.terms.Term.TheVariants.{Var, Const}
use Rattle.lv_formula.specs.declared.vocabulary.Vocabulary.{Vocabulary}
use Rattle.lv_formula.specs.declared.formula.Formula.{Formula}
use Rattle.lv_formula.specs.Vocabulary.{relation_in, constant_in}
use Rattle.lv_formula.specs.Fits.{sort_of, is_sort, agree, have_sorts, are_arguments, fits_in, all_fit_in}
use Rattle.lv_formula.proofs.Folds.{folds_at}
use Rattle.lv_formula.proofs.Induction.{Cases, Each, by_cases}
use Rattle.lv_formula.specs.Meaning.{Meaning}
use Rattle.lv_formula.specs.Truth.{Env, value_of, values_of, truth_in, all_true_in, any_true_in, all_below, any_below, iff}

-- both have the same elements, and are the same at what the vocabulary names, at every tuple
pub record SameOn (voc : Vocabulary) (m n : Meaning) : Type 0 where
  pub sizes : (s : SortId) → m.size s ≡ n.size s
  pub relations : (r : Sym) (sorts : List SortId) → relation_in voc.relations r ≡ Some sorts → (tuple : List ℕ) → m.holds r tuple ≡ n.holds r tuple
  pub constants : (c : Sym) (s : SortId) → constant_in voc.constants c ≡ Some s → m.value c ≡ n.value c

sort_known : (o : Option SortId) (s : SortId) → is_sort o s ≡ true → (t : SortId) × (o ≡ Some t)
sort_known None s h = cc
sort_known (Some t) s h = (t, refl)

sorts_known : (o p : Option SortId) → agree o p ≡ true → ((t : SortId) × (o ≡ Some t)) × ((s : SortId) × (p ≡ Some s))
sorts_known o None h = cc
sorts_known o (Some s) h = (sort_known o s h, (s, refl))

module _ (voc : Vocabulary) (m n : Meaning) (same : SameOn voc m n) where
  -- a term that has a sort stands for the same element in both
  pub value_same : (ctx : List SortId) (env : Env) (t : Term) (s : SortId) → sort_of voc ctx t ≡ Some s → value_of m env t ≡ value_of n env t
  value_same ctx env (Var i) s e = refl
  value_same ctx env (Const c) s e = same.constants c s e

  values_same : (ctx : List SortId) (env : Env) (ts : List Term) (sorts : List SortId) → have_sorts voc ctx ts sorts ≡ true → values_of m env ts ≡ values_of n env ts
  values_same ctx env [] sorts e = refl
  values_same ctx env (t ∷ ts) [] e = cc
  values_same ctx env (t ∷ ts) (s ∷ ss) e =
      let both = and_parts (is_sort (sort_of voc ctx t) s) (have_sorts voc ctx ts ss) e in
      let known = sort_known (sort_of voc ctx t) s both.0 in
      ap₂ (λ v vs. v ∷ vs) (value_same ctx env t known.0 known.1) (values_same ctx env ts ss both.1)

  atom_same : (ctx : List SortId) (env : Env) (r : Sym) (ts : List Term) (o : Option (List SortId)) → relation_in voc.relations r ≡ o → are_arguments voc ctx ts o ≡ true → m.holds r (values_of m env ts) ≡ n.holds r (values_of n env ts)
  atom_same ctx env r ts None is e = cc
  atom_same ctx env r ts (Some sorts) is e = same.relations r sorts is (values_of m env ts) ∙ ap (n.holds r) (values_same ctx env ts sorts e)

  abbrev Same : Formula → Type 0
  Same f = (ctx : List SortId) (env : Env) → fits_in voc ctx f ≡ true → truth_in m f env ≡ truth_in n f env

  each_same : (fs : List Formula) → Each Same fs → (ctx : List SortId) (env : Env) → all_fit_in voc ctx fs ≡ true → all_true_in m fs env ≡ all_true_in n fs env
  each_same [] each ctx env e = refl
  each_same (f ∷ fs) each ctx env e = let both = and_parts (fits_in voc ctx f) (all_fit_in voc ctx fs) e in
      ap₂ (λ a b. a && b) (each.0 ctx env both.0) (each_same fs each.1 ctx env both.1)

  some_same : (fs : List Formula) → Each Same fs → (ctx : List SortId) (env : Env) → all_fit_in voc ctx fs ≡ true → any_true_in m fs env ≡ any_true_in n fs env
  some_same [] each ctx env e = refl
  some_same (f ∷ fs) each ctx env e = let both = and_parts (fits_in voc ctx f) (all_fit_in voc ctx fs) e in
      ap₂ (λ a b. a || b) (each.0 ctx env both.0) (some_same fs each.1 ctx env both.1)

  cases : Cases Same
  cases = record {
    at_true = λ ctx env e. simp folds_at refl;
    at_false = λ ctx env e. simp folds_at refl;
    at_atom = λ r ts ctx env e. simp folds_at (atom_same ctx env r ts (relation_in voc.relations r) refl (simp folds_at at e));
    at_same = λ a b ctx env e.
        let k = sorts_known (sort_of voc ctx a) (sort_of voc ctx b) (simp folds_at at e) in
        simp folds_at (ap₂ eqb (value_same ctx env a k.0.0 k.0.1) (value_same ctx env b k.1.0 k.1.1));
    at_not = λ f ih ctx env e. simp folds_at (ap not (ih ctx env (simp folds_at at e)));
    at_and = λ fs each ctx env e. simp folds_at (each_same fs each ctx env (simp folds_at at e));
    at_or = λ fs each ctx env e. simp folds_at (some_same fs each ctx env (simp folds_at at e));
    at_implies = λ f g ihf ihg ctx env e. let both = and_parts (fits_in voc ctx f) (fits_in voc ctx g) (simp folds_at at e) in
        simp folds_at (ap₂ (λ a b. not a || b) (ihf ctx env both.0) (ihg ctx env both.1));
    at_iff = λ f g ihf ihg ctx env e. let both = and_parts (fits_in voc ctx f) (fits_in voc ctx g) (simp folds_at at e) in
        simp folds_at (ap₂ iff (ihf ctx env both.0) (ihg ctx env both.1));
    at_all = λ s f ih ctx env e. let both = and_parts (ltb s.0 voc.sorts) (fits_in voc (s ∷ ctx) f) (simp folds_at at e) in
        simp folds_at ((λ i. all_below (m.size s) (λ x. ih (s ∷ ctx) (x ∷ env) both.1 i)) ∙ ap (λ k. all_below k (λ x. truth_in n f (x ∷ env))) (same.sizes s));
    at_any = λ s f ih ctx env e. let both = and_parts (ltb s.0 voc.sorts) (fits_in voc (s ∷ ctx) f) (simp folds_at at e) in
        simp folds_at ((λ i. any_below (m.size s) (λ x. ih (s ∷ ctx) (x ∷ env) both.1 i)) ∙ ap (λ k. any_below k (λ x. truth_in n f (x ∷ env))) (same.sizes s));
  }

  -- a formula that fits is true in both or in neither, whatever the values of its variables
  pub truth_same : (f : Formula) (ctx : List SortId) (env : Env) → fits_in voc ctx f ≡ true → truth_in m f env ≡ truth_in n f env
  truth_same = by_cases Same cases

  -- the same of a list of formulas
  pub all_true_same : (fs : List Formula) (ctx : List SortId) (env : Env) → all_fit_in voc ctx fs ≡ true → all_true_in m fs env ≡ all_true_in n fs env
  all_true_same [] ctx env e = refl
  all_true_same (f ∷ fs) ctx env e = let both = and_parts (fits_in voc ctx f) (all_fit_in voc ctx fs) e in
      ap₂ (λ a b. a && b) (truth_same f ctx env both.0) (all_true_same fs ctx env both.1)
