-- Two structures that agree on what a vocabulary names agree on each formula that fits it.
use Rattle.std.proofs.Common.{◌≡◌, ℕ, zero, suc, ◌+◌, ◌<◌, true, false, not, ◌&&◌, ◌||◌, eqb, ltb, List, [], ◌∷◌, get_or, slice_get, Option, Some, None, refl, ap, ap₂, subst, ◌∙◌, arith}
use Rattle.std.proofs.lemmas.Bool.{and_from, and_parts, eqb-true, lt-ltb, ltb-true}
use Rattle.lv_formula.specs.declared.symbols.SortId.{SortId}
use Rattle.lv_formula.specs.declared.symbols.Sym.{Sym}
use Rattle.lv_formula.specs.declared.terms.Term.{Term}
use Rattle.lv_formula.specs.declared.terms.Term.TheVariants.{Var, Const}
use Rattle.lv_formula.specs.declared.vocabulary.Vocabulary.{Vocabulary}
use Rattle.lv_formula.specs.declared.formula.Formula.{Formula}
use Rattle.lv_formula.specs.Vocabulary.{relation_in}
use Rattle.lv_formula.specs.Fits.{sort_of, is_sort, agree, have_sorts, are_arguments, fits_in, all_fit_in}
use Rattle.lv_formula.proofs.Folds.{folds_at}
use Rattle.lv_formula.proofs.Induction.{Cases, Each, by_cases}
use Rattle.lv_formula.specs.Meaning.{AgreeOn, IsStructureOf, Meaning, in_range, is_element}
use Rattle.lv_formula.proofs.Below.{all_below_same, any_below_same}
use Rattle.lv_formula.specs.Truth.{Env, value_of, values_of, truth_in, all_true_in, any_true_in, all_below, any_below, iff}

-- the sort that a term is seen to have
pub same_sort : (o : Option SortId) (s : SortId) → is_sort o s ≡ true → o ≡ Some s
same_sort None s h = cc
same_sort (Some t) s h = let e : t.0 ≡ s.0 = eqb-true t.0 s.0 h in λ i. Some (record { 0 = e i })

known_sort : (o p : Option SortId) → agree o p ≡ true → (s : SortId) × (o ≡ Some s) × (p ≡ Some s)
known_sort o None h = cc
known_sort o (Some s) h = (s, same_sort o s h, refl)

-- a variable's value is an element of its sort
pub element_of : (m : Meaning) (ctx : List SortId) (env : Env) (i : ℕ) (s : SortId) → slice_get ctx i ≡ Some s → in_range m ctx env ≡ true → is_element m s (get_or env i 0) ≡ true
element_of m [] env i s e h = cc
element_of m (t ∷ ss) [] i s e h = cc
element_of m (t ∷ ss) (x ∷ xs) zero s e h = let same : t ≡ s = cc in subst (λ r. is_element m r x ≡ true) same (and_parts (is_element m t x) (in_range m ss xs) h).0
element_of m (t ∷ ss) (x ∷ xs) (suc i) s e h = element_of m ss xs i s e (and_parts (is_element m t x) (in_range m ss xs) h).1

module _ (voc : Vocabulary) (m n : Meaning) (sound : IsStructureOf voc m) (agrees : AgreeOn voc m n) where
  -- a term is the same element in both, of its sort
  pub term_agrees : (ctx : List SortId) (env : Env) (t : Term) (s : SortId) → sort_of voc ctx t ≡ Some s → in_range m ctx env ≡ true
      → (value_of m env t ≡ value_of n env t) × (is_element m s (value_of m env t) ≡ true)
  term_agrees ctx env (Var i) s e h = (refl, element_of m ctx env i s e h)
  term_agrees ctx env (Const c) s e h = (agrees.constants c s e, lt-ltb (m.value c) (m.size s) (sound.constants c s e))

  terms_agree : (ctx : List SortId) (env : Env) (ts : List Term) (sorts : List SortId) → have_sorts voc ctx ts sorts ≡ true → in_range m ctx env ≡ true
      → (values_of m env ts ≡ values_of n env ts) × (in_range m sorts (values_of m env ts) ≡ true)
  terms_agree ctx env [] [] e h = (refl, refl)
  terms_agree ctx env [] (s ∷ ss) e h = cc
  terms_agree ctx env (t ∷ ts) [] e h = cc
  terms_agree ctx env (t ∷ ts) (s ∷ ss) e h =
      let both = and_parts (is_sort (sort_of voc ctx t) s) (have_sorts voc ctx ts ss) e in
      let first = term_agrees ctx env t s (same_sort (sort_of voc ctx t) s both.0) h in
      let rest = terms_agree ctx env ts ss both.1 h in
      (ap₂ (λ v vs. v ∷ vs) first.0 rest.0, and_from (is_element m s (value_of m env t)) (in_range m ss (values_of m env ts)) first.1 rest.1)

  atom_agrees : (ctx : List SortId) (env : Env) (r : Sym) (ts : List Term) (o : Option (List SortId)) → relation_in voc.relations r ≡ o → are_arguments voc ctx ts o ≡ true → in_range m ctx env ≡ true
      → m.holds r (values_of m env ts) ≡ n.holds r (values_of n env ts)
  atom_agrees ctx env r ts None is e h = cc
  atom_agrees ctx env r ts (Some sorts) is e h =
      let them = terms_agree ctx env ts sorts e h in
      agrees.relations r sorts is (values_of m env ts) them.1 ∙ ap (n.holds r) them.0

  abbrev Same : Formula → Type 0
  Same f = (ctx : List SortId) (env : Env) → fits_in voc ctx f ≡ true → in_range m ctx env ≡ true → truth_in m f env ≡ truth_in n f env

  all_agree : (fs : List Formula) → Each Same fs → (ctx : List SortId) (env : Env) → all_fit_in voc ctx fs ≡ true → in_range m ctx env ≡ true → all_true_in m fs env ≡ all_true_in n fs env
  all_agree [] each ctx env e h = refl
  all_agree (f ∷ fs) each ctx env e h = let both = and_parts (fits_in voc ctx f) (all_fit_in voc ctx fs) e in
      ap₂ (λ a b. a && b) (each.0 ctx env both.0 h) (all_agree fs each.1 ctx env both.1 h)

  any_agree : (fs : List Formula) → Each Same fs → (ctx : List SortId) (env : Env) → all_fit_in voc ctx fs ≡ true → in_range m ctx env ≡ true → any_true_in m fs env ≡ any_true_in n fs env
  any_agree [] each ctx env e h = refl
  any_agree (f ∷ fs) each ctx env e h = let both = and_parts (fits_in voc ctx f) (all_fit_in voc ctx fs) e in
      ap₂ (λ a b. a || b) (each.0 ctx env both.0 h) (any_agree fs each.1 ctx env both.1 h)

  cases : Cases Same
  cases = record {
    at_true = λ ctx env e h. simp folds_at refl;
    at_false = λ ctx env e h. simp folds_at refl;
    at_atom = λ r ts ctx env e h. simp folds_at (atom_agrees ctx env r ts (relation_in voc.relations r) refl (simp folds_at at e) h);
    at_same = λ a b ctx env e h.
        let k = known_sort (sort_of voc ctx a) (sort_of voc ctx b) (simp folds_at at e) in
        simp folds_at (ap₂ eqb (term_agrees ctx env a k.0 k.1 h).0 (term_agrees ctx env b k.0 k.2 h).0);
    at_not = λ f ih ctx env e h. simp folds_at (ap not (ih ctx env (simp folds_at at e) h));
    at_and = λ fs each ctx env e h. simp folds_at (all_agree fs each ctx env (simp folds_at at e) h);
    at_or = λ fs each ctx env e h. simp folds_at (any_agree fs each ctx env (simp folds_at at e) h);
    at_implies = λ f g ihf ihg ctx env e h. let both = and_parts (fits_in voc ctx f) (fits_in voc ctx g) (simp folds_at at e) in
        simp folds_at (ap₂ (λ a b. not a || b) (ihf ctx env both.0 h) (ihg ctx env both.1 h));
    at_iff = λ f g ihf ihg ctx env e h. let both = and_parts (fits_in voc ctx f) (fits_in voc ctx g) (simp folds_at at e) in
        simp folds_at (ap₂ iff (ihf ctx env both.0 h) (ihg ctx env both.1 h));
    at_all = λ s f ih ctx env e h. let both = and_parts (ltb s.0 voc.sorts) (fits_in voc (s ∷ ctx) f) (simp folds_at at e) in
        simp folds_at (all_below_same (m.size s) (λ x. truth_in m f (x ∷ env)) (λ x. truth_in n f (x ∷ env)) (λ x lt. ih (s ∷ ctx) (x ∷ env) both.1 (and_from (is_element m s x) (in_range m ctx env) (lt-ltb x (m.size s) lt) h)) ∙ ap (λ k. all_below k (λ x. truth_in n f (x ∷ env))) (agrees.sizes s (ltb-true s.0 voc.sorts both.0)));
    at_any = λ s f ih ctx env e h. let both = and_parts (ltb s.0 voc.sorts) (fits_in voc (s ∷ ctx) f) (simp folds_at at e) in
        simp folds_at (any_below_same (m.size s) (λ x. truth_in m f (x ∷ env)) (λ x. truth_in n f (x ∷ env)) (λ x lt. ih (s ∷ ctx) (x ∷ env) both.1 (and_from (is_element m s x) (in_range m ctx env) (lt-ltb x (m.size s) lt) h)) ∙ ap (λ k. any_below k (λ x. truth_in n f (x ∷ env))) (agrees.sizes s (ltb-true s.0 voc.sorts both.0)));
  }

  pub truth_agrees : (f : Formula) (ctx : List SortId) (env : Env) → fits_in voc ctx f ≡ true → in_range m ctx env ≡ true → truth_in m f env ≡ truth_in n f env
  truth_agrees = by_cases Same cases
