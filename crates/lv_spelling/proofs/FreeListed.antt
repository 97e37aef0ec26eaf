-- The listed variables of a label are found to be the free ones of its formula exactly where they are.
use Rattle.std.proofs.Common.{◌≡◌, ℕ, zero, suc, ◌<◌, Bool, true, false, not, ◌&&◌, cond, eqb, Option, Some, None, List, [], ◌∷◌, ◌++◌, length, map, refl, sym, ap, subst, ◌∙◌, arith}
use Rattle.std.proofs.lemmas.Bool.{and_from, eqb-true, eqb-false, ne_eqb}
use Rattle.lv_tree.specs.declared.tree.Tree.{Tree}
use Rattle.lv_formula.specs.declared.symbols.SortId.{SortId}
use Rattle.lv_formula.specs.declared.terms.Term.{Term}
use Rattle.lv_formula.specs.declared.temporal.Temporal.{Temporal}
use Rattle.lv_formula.proofs.Induction.{Each}
use Rattle.lv_formula.proofs.TemporalFolds.{folds}
use Rattle.lv_system.specs.Names.{same_text}
use Rattle.lv_labels.proofs.Once.{each_both}
use Rattle.lv_labels.specs.Once.{is_among, once_behind}
use Rattle.lv_labels.specs.Renaming.{term_variables, terms_variables, outside, occurrences_of, occurrences_of_all, free_variables}
use Rattle.lv_grammar.specs.declared.reading.Role.{Role}
use Rattle.lv_grammar.specs.LabelLimits.{numbers_eq, parameter_numbers}
use Rattle.lv_grammar.specs.Words.{Variable, further, variable_number}
use Rattle.lv_grammar.specs.Known.{Known}
use Rattle.lv_grammar.specs.Labelling.{free_name}
use Rattle.lv_grammar.specs.ReadItems.{Declared, places_of}
use Rattle.lv_grammar.specs.Rules.{IsTerm, variable, constant, AreTerms, no_terms, terms, IsFormula, truth, falsity, bare_atom, atom, equation, negation, conjunction, disjunction, implication, equivalence, universal, existential, always, eventually, AreFormulas, no_formulas, formulas}
use Rattle.lv_grammar.proofs.Steps.{done, passed}
use Rattle.lv_spelling.proofs.Tests.{not_false}
use Rattle.lv_spelling.proofs.WordKinds.{and_first, and_second, or_first, or_second}

-- ---- the variables of a formula are those of its scope

abbrev pub Below : ℕ → List ℕ → Type 0
Below n vs = Each (λ v. v < n) vs

both_below : (n : ℕ) (xs ys : List ℕ) → Below n xs → Below n ys → Below n (xs ++ ys)
both_below n xs ys a b = each_both (λ v. v < n) xs ys a b

below_outside : (n : ℕ) (vs : List ℕ) → Below (suc n) vs → Below n (outside vs)
below_outside n [] b = tt
below_outside n (zero ∷ vs) b = below_outside n vs b.1
below_outside n (suc v ∷ vs) b = (omega (arith, b.0), below_outside n vs b.1)

number_further : (n : ℕ) (o : Option ℕ) (i : ℕ) → ((j : ℕ) → o ≡ Some j → j < n) → further o ≡ Some i → i < suc n
number_further n None i there e = absurd cc
number_further n (Some j) i there e = let q : suc j ≡ i = cc in let lt = there j refl in omega (arith, lt, q)

number_below : (vs : List Variable) (name : List ℕ) (i : ℕ) → variable_number vs name ≡ Some i → i < length vs
number_below [] name i e = absurd cc
number_below (v ∷ vs) name i e = go (same_text v.name name) (number_below vs name) e where
  go : (b : Bool) → ((j : ℕ) → variable_number vs name ≡ Some j → j < length vs) → cond b (Some 0) (further (variable_number vs name)) ≡ Some i → i < suc (length vs)
  go true there e = let q : 0 ≡ i = cc in omega (arith, q)
  go false there e = number_further (length vs) (variable_number vs name) i there e

module _ {k : Known} {role : Role} where
  term_below : {vs : List Variable} {x : Term} {s : SortId} {t : Tree} → IsTerm k role vs x s t → Below (length vs) (term_variables x)
  term_below {vs} (variable {i = i} name is capital e) = (number_below vs name i e, tt)
  term_below (constant text is says) = tt

  terms_below : {vs : List Variable} {xs : List Term} {ss : List SortId} {ts : List Tree} → AreTerms k role vs xs ss ts → Below (length vs) (terms_variables xs)
  terms_below no_terms = tt
  terms_below {vs} (terms {x = x} {xs = xs} is are) = both_below (length vs) (term_variables x) (terms_variables xs) (term_below is) (terms_below are)

  mutual
    pub below : {room iffs : ℕ} {vs : List Variable} {f : Temporal} {t : Tree} → IsFormula k role room iffs vs f t → Below (length vs) (occurrences_of f)
    below (truth is) = simp folds tt
    below (falsity is) = simp folds tt
    below (bare_atom text is says) = simp folds tt
    below (atom text a as' b says are) = simp folds (terms_below are)
    below {vs = vs} (equation {x = x} {y = y} a b begins is-x is-y) = simp folds (both_below (length vs) (term_variables x) (term_variables y) (term_below is-x) (term_below is-y))
    below (negation a b is) = simp folds (below is)
    below (conjunction as' b are) = simp folds (all_below are)
    below (disjunction as' b are) = simp folds (all_below are)
    below {vs = vs} (implication {f = f} {g = g} a b c x y) = simp folds (both_below (length vs) (occurrences_of f) (occurrences_of g) (below x) (below y))
    below {vs = vs} (equivalence {f = f} {g = g} a b c x y) = simp folds (both_below (length vs) (occurrences_of f) (occurrences_of g) (below x) (below y))
    below {vs = vs} (universal {f = f} x v r a b binds is) = simp folds (below_outside (length vs) (occurrences_of f) (below is))
    below {vs = vs} (existential {f = f} x v r a b binds is) = simp folds (below_outside (length vs) (occurrences_of f) (below is))
    below (always a b may is) = simp folds (below is)
    below (eventually a b may is) = simp folds (below is)

    all_below : {room iffs : ℕ} {vs : List Variable} {fs : List Temporal} {ts : List Tree} → AreFormulas k role room iffs vs fs ts → Below (length vs) (occurrences_of_all fs)
    all_below no_formulas = tt
    all_below {vs = vs} (formulas {f = f} {fs = fs} is are) = both_below (length vs) (occurrences_of f) (occurrences_of_all fs) (below is) (all_below are)

below_once : (n : ℕ) (known xs : List ℕ) → Below n known → Below n xs → Below n (once_behind eqb known xs)
below_once n known [] a b = a
below_once n known (x ∷ xs) a b = go (is_among eqb x known) (λ k h. below_once n k xs h b.1) where
  go : (c : Bool) → ((k : List ℕ) → Below n k → Below n (once_behind eqb k xs)) → Below n (once_behind eqb (cond c known (known ++ x ∷ [])) xs)
  go true rest = rest known a
  go false rest = rest (known ++ x ∷ []) (both_below n known (x ∷ []) a (b.0, tt))

-- ---- each stands once

abbrev Apart : List ℕ → Type 0
Apart [] = Unit {0}
Apart (v ∷ vs) = (is_among eqb v vs ≡ false) × Apart vs

among_both : (v : ℕ) (xs : List ℕ) (x : ℕ) → is_among eqb v xs ≡ false → eqb v x ≡ false → is_among eqb v (xs ++ x ∷ []) ≡ false
among_both v [] x a b = rw b refl
among_both v (y ∷ ys) x a b = rw (or_first (eqb v y) _ a) (among_both v ys x (or_second (eqb v y) _ a) b)

apart_further : (xs : List ℕ) (x : ℕ) → Apart xs → is_among eqb x xs ≡ false → Apart (xs ++ x ∷ [])
apart_further [] x a e = (refl, tt)
apart_further (y ∷ ys) x a e =
    let turned : eqb y x ≡ false = ne_eqb y x (λ h. eqb-false x y (or_first (eqb x y) _ e) (sym h)) in
    (among_both y ys x a.0 turned, apart_further ys x a.1 (or_second (eqb x y) _ e))

apart_once : (known xs : List ℕ) → Apart known → Apart (once_behind eqb known xs)
apart_once known [] a = a
apart_once known (x ∷ xs) a = go (is_among eqb x known) refl (λ k h. apart_once k xs h) where
  go : (c : Bool) → is_among eqb x known ≡ c → ((k : List ℕ) → Apart k → Apart (once_behind eqb k xs)) → Apart (once_behind eqb (cond c known (known ++ x ∷ [])) xs)
  go true e rest = rest known a
  go false e rest = rest (known ++ x ∷ []) (apart_further known x a e)

-- ---- the listed variables

still_below : (n : ℕ) (vs : List ℕ) → Below (suc n) vs → is_among eqb n vs ≡ false → Below n vs
still_below n [] b e = tt
still_below n (v ∷ vs) b e =
    let lt : v < suc n = b.0 in
    (small lt (eqb-false n v (or_first (eqb n v) _ e)), still_below n vs b.1 (or_second (eqb n v) _ e)) where
      small : v < suc n → (n ≡ v → ⊥) → v < n
      small lt ne = go (eqb n v) refl where
        go : (c : Bool) → eqb n v ≡ c → v < n
        go true h = absurd (ne (eqb-true n v h))
        go false h = let other = eqb-false n v h in omega (arith, lt, other)

listed_free : (places : List ℕ) (number : ℕ) (free : List ℕ) → length places ≡ number → Below number free → Apart free → free_name places number free ≡ done tt → numbers_eq free (parameter_numbers number) ≡ true
unfolding free_name
listed_free [] zero [] l b a e = refl
listed_free [] zero (v ∷ free) l b a e = let lt = b.0 in absurd (omega (arith, lt))
listed_free [] (suc number) free l b a e = absurd (omega (arith, l))
listed_free (at ∷ places) zero free l b a e = absurd (omega (arith, l))
listed_free (at ∷ places) (suc number) [] l b a e = absurd cc
listed_free (at ∷ places) (suc number) (v ∷ free) l b a e =
    let q = passed (not (eqb v number)) _ _ _ tt e in
    let same : eqb v number ≡ true = not_false (eqb v number) q.0 in
    let is : v ≡ number = eqb-true v number same in
    let apart : is_among eqb number free ≡ false = subst (λ n. is_among eqb n free ≡ false) is a.0 in
    and_from (eqb v number) _ same (listed_free places number free (omega (arith, l)) (still_below number free b.1 apart) a.1 q.1)

places_length : (xs : List Declared) → length (places_of xs) ≡ length xs
places_length [] = refl
places_length (x ∷ xs) = ap suc (places_length xs)

pub free_is : (xs : List Declared) (f : Temporal) → Below (length xs) (occurrences_of f) → free_name (places_of xs) (length xs) (free_variables f) ≡ done tt → numbers_eq (free_variables f) (parameter_numbers (length xs)) ≡ true
free_is xs f b e = listed_free (places_of xs) (length xs) (free_variables f) (places_length xs) (below_once (length xs) [] (occurrences_of f) tt b) (apart_once [] (occurrences_of f) tt) e

pub free_again : (xs : List Declared) (free : List ℕ) → numbers_eq free (parameter_numbers (length xs)) ≡ true → free_name (places_of xs) (length xs) free ≡ done tt
unfolding free_name
free_again [] free e = refl
free_again (x ∷ xs) [] e = absurd cc
free_again (x ∷ xs) (v ∷ free) e = rw (and_first (eqb v (length xs)) _ e) (free_again xs free (and_second (eqb v (length xs)) _ e))
