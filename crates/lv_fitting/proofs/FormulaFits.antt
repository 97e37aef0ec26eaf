-- A formula by the rules fits and keeps its limits.
use Rattle.std.proofs.Common.{◌≡◌, ℕ, suc, ◌≤◌, max, Bool, true, false, cond, List, [], ◌∷◌, slice_get, Option, Some, None, refl, subst, arith}
use Rattle.std.proofs.lemmas.Bool.{eq-eqb}
use Rattle.lv_tree.specs.declared.tree.Tree.{Tree}
use Rattle.lv_formula.specs.declared.symbols.SortId.{SortId}
use Rattle.lv_formula.specs.declared.terms.Term.{Term}
use Rattle.lv_formula.specs.declared.temporal.Temporal.{Temporal}
use Rattle.lv_formula.specs.declared.temporal.Temporal.TheVariants as T
use Rattle.lv_formula.specs.declared.vocabulary.Vocabulary.{Vocabulary}
use Rattle.lv_formula.specs.Fits.{sort_of, have_sorts}
use Rattle.lv_formula.specs.TemporalFits.{temporal_fits_in, all_temporal_fit_in}
use Rattle.lv_formula.proofs.TemporalFolds as Folds
use Rattle.lv_system.specs.TemporalLimits.{temporal_lists_of, temporal_lists_of_all, temporal_iffs_of, temporal_iffs_of_all}
use Rattle.lv_system.specs.Names.{same_text}
use Rattle.lv_grammar.specs.Words.{Variable, further, variable_number}
use Rattle.lv_grammar.specs.declared.reading.Role.{Role}
use Rattle.lv_grammar.specs.Known.{Known}
use Rattle.lv_grammar.specs.Agrees.{Agrees}
use Rattle.lv_grammar.specs.Rules.{IsTerm, variable, constant, AreTerms, no_terms, terms, sorts_of, sort_at, IsFormula, truth, falsity, bare_atom, atom, equation, negation, conjunction, disjunction, implication, equivalence, universal, existential, always, eventually, AreFormulas, no_formulas, formulas}

pub most : (m n bound : ℕ) → m ≤ bound → n ≤ bound → max m n ≤ bound
most m n bound a b = omega (arith, a, b)

-- ---- variables

there_further : (vs : List Variable) (v : Variable) (o : Option ℕ) (i : ℕ) → ((j : ℕ) → o ≡ Some j → slice_get (sorts_of vs) j ≡ Some (sort_at vs j)) → further o ≡ Some i
    → slice_get (sorts_of (v ∷ vs)) i ≡ Some (sort_at (v ∷ vs) i)
there_further vs v None i there e = absurd cc
there_further vs v (Some j) i there e = let q : suc j ≡ i = cc in subst (λ n. slice_get (sorts_of (v ∷ vs)) n ≡ Some (sort_at (v ∷ vs) n)) q (there j refl)

pub variable_there : (vs : List Variable) (name : List ℕ) (i : ℕ) → variable_number vs name ≡ Some i → slice_get (sorts_of vs) i ≡ Some (sort_at vs i)
variable_there [] name i e = absurd cc
variable_there (v ∷ vs) name i e = go (same_text v.name name) (variable_there vs name) e where
  go : (b : Bool) → ((j : ℕ) → variable_number vs name ≡ Some j → slice_get (sorts_of vs) j ≡ Some (sort_at vs j)) → cond b (Some 0) (further (variable_number vs name)) ≡ Some i
      → slice_get (sorts_of (v ∷ vs)) i ≡ Some (sort_at (v ∷ vs) i)
  go true rest e = let q : 0 ≡ i = cc in subst (λ n. slice_get (sorts_of (v ∷ vs)) n ≡ Some (sort_at (v ∷ vs) n)) q refl
  go false rest e = there_further vs v (variable_number vs name) i rest e

module _ {k : Known} {role : Role} where
  -- ---- lists nest at most so deep

  mutual
    pub deep : {room iffs : ℕ} {vs : List Variable} {f : Temporal} {t : Tree} → IsFormula k role room iffs vs f t → temporal_lists_of f ≤ room
    deep (truth is) = simp Folds.folds (omega arith)
    deep (falsity is) = simp Folds.folds (omega arith)
    deep (bare_atom text is says) = simp Folds.folds (omega arith)
    deep (atom {xs = []} text a as' b says are) = simp Folds.folds (omega arith)
    deep (atom {xs = x ∷ xs} text a as' b says are) = simp Folds.folds (omega arith)
    deep (equation a b begins x y) = simp Folds.folds (omega arith)
    deep (negation a b is) = let d = deep is in simp Folds.folds (omega (arith, d))
    deep (conjunction as' b are) = let d = all_deep are in simp Folds.folds (omega (arith, d))
    deep (disjunction as' b are) = let d = all_deep are in simp Folds.folds (omega (arith, d))
    deep (implication a b c x y) = let d = deep x in let e = deep y in simp Folds.folds (omega (arith, d, e))
    deep (equivalence a b c x y) = let d = deep x in let e = deep y in simp Folds.folds (omega (arith, d, e))
    deep (universal x v r a b binds is) = let d = deep is in simp Folds.folds (omega (arith, d))
    deep (existential x v r a b binds is) = let d = deep is in simp Folds.folds (omega (arith, d))
    deep (always a b may is) = let d = deep is in simp Folds.folds (omega (arith, d))
    deep (eventually a b may is) = let d = deep is in simp Folds.folds (omega (arith, d))

    all_deep : {room iffs : ℕ} {vs : List Variable} {fs : List Temporal} {ts : List Tree} → AreFormulas k role room iffs vs fs ts → temporal_lists_of_all fs ≤ room
    all_deep no_formulas = omega arith
    all_deep (formulas {room = room} {f = f} {fs = fs} is are) = most (temporal_lists_of f) (temporal_lists_of_all fs) room (deep is) (all_deep are)

  -- ---- so many equivalences inside one another

  mutual
    pub nested : {room iffs : ℕ} {vs : List Variable} {f : Temporal} {t : Tree} → IsFormula k role room iffs vs f t → temporal_iffs_of f ≤ iffs
    nested (truth is) = simp Folds.folds (omega arith)
    nested (falsity is) = simp Folds.folds (omega arith)
    nested (bare_atom text is says) = simp Folds.folds (omega arith)
    nested (atom text a as' b says are) = simp Folds.folds (omega arith)
    nested (equation a b begins x y) = simp Folds.folds (omega arith)
    nested (negation a b is) = simp Folds.folds (nested is)
    nested (conjunction as' b are) = simp Folds.folds (all_nested are)
    nested (disjunction as' b are) = simp Folds.folds (all_nested are)
    nested (implication a b c x y) = let d = nested x in let e = nested y in simp Folds.folds (omega (arith, d, e))
    nested (equivalence a b c x y) = let d = nested x in let e = nested y in simp Folds.folds (omega (arith, d, e))
    nested (universal x v r a b binds is) = simp Folds.folds (nested is)
    nested (existential x v r a b binds is) = simp Folds.folds (nested is)
    nested (always a b may is) = simp Folds.folds (nested is)
    nested (eventually a b may is) = simp Folds.folds (nested is)

    all_nested : {room iffs : ℕ} {vs : List Variable} {fs : List Temporal} {ts : List Tree} → AreFormulas k role room iffs vs fs ts → temporal_iffs_of_all fs ≤ iffs
    all_nested no_formulas = omega arith
    all_nested (formulas {iffs = iffs} {f = f} {fs = fs} is are) = most (temporal_iffs_of f) (temporal_iffs_of_all fs) iffs (nested is) (all_nested are)

module _ {k : Known} {role : Role} (voc : Vocabulary) (g : Agrees k role voc) where
  pub sorted : {vs : List Variable} {x : Term} {s : SortId} {t : Tree} → IsTerm k role vs x s t → sort_of voc (sorts_of vs) x ≡ Some s
  sorted {vs} (variable {i = i} name is capital e) = variable_there vs name i e
  sorted (constant {sym = c} {sort = s} text is says) = g.constant text c s says

  all_sorted : {vs : List Variable} {xs : List Term} {ss : List SortId} {ts : List Tree} → AreTerms k role vs xs ss ts → have_sorts voc (sorts_of vs) xs ss ≡ true
  all_sorted no_terms = refl
  all_sorted (terms {s = s} is are) = rw (sorted is, eq-eqb s.0 s.0 refl, all_sorted are) refl

  mutual
    pub fits : {room iffs : ℕ} {vs : List Variable} {f : Temporal} {t : Tree} → IsFormula k role room iffs vs f t → temporal_fits_in voc (sorts_of vs) f ≡ true
    fits (truth is) = simp Folds.folds_at refl
    fits (falsity is) = simp Folds.folds_at refl
    fits (bare_atom {sym = r} text is says) = simp Folds.folds_at (rw (g.relation text r [] says) refl)
    fits (atom {sym = r} {sorts = ss} text a as' b says are) = simp Folds.folds_at (rw (g.relation text r ss says) (all_sorted are))
    fits (equation {sort = s} a b begins x y) = simp Folds.folds_at (rw (sorted x, sorted y) (eq-eqb s.0 s.0 refl))
    fits (negation a b is) = simp Folds.folds_at (fits is)
    fits (conjunction as' b are) = simp Folds.folds_at (all_fit are)
    fits (disjunction as' b are) = simp Folds.folds_at (all_fit are)
    fits (implication a b c x y) = simp Folds.folds_at (rw (fits x, fits y) refl)
    fits (equivalence a b c x y) = simp Folds.folds_at (rw (fits x, fits y) refl)
    fits (universal x v r a b binds is) = simp Folds.folds_at (rw (g.sort x.sort r binds.sort, fits is) refl)
    fits (existential x v r a b binds is) = simp Folds.folds_at (rw (g.sort x.sort r binds.sort, fits is) refl)
    fits (always a b may is) = simp Folds.folds_at (fits is)
    fits (eventually a b may is) = simp Folds.folds_at (fits is)

    all_fit : {room iffs : ℕ} {vs : List Variable} {fs : List Temporal} {ts : List Tree} → AreFormulas k role room iffs vs fs ts → all_temporal_fit_in voc (sorts_of vs) fs ≡ true
    all_fit no_formulas = refl
    all_fit (formulas is are) = rw (fits is, all_fit are) refl
