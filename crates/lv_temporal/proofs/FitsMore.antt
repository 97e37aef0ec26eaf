-- A formula that fits a vocabulary fits one with more symbols.
use Rattle.std.proofs.Common.{◌≡◌, ℕ, zero, suc, ◌+◌, ◌<◌, ◌≤◌, Bool, true, false, ◌&&◌, cond, List, [], ◌∷◌, length, get_or, Option, Some, None, refl, sym, ap, ◌∙◌, arith, ne_eqb}
use Rattle.std.proofs.lemmas.Bool.{and_from, and_parts}
use Rattle.lv_formula.specs.declared.symbols.SortId.{SortId}
use Rattle.lv_formula.specs.declared.symbols.Sym.{Sym}
use Rattle.lv_formula.specs.declared.symbols.Sym.TheVariants.{Own}
use Rattle.lv_formula.specs.declared.vocabulary.Vocabulary.{Vocabulary}
use Rattle.lv_formula.specs.declared.formula.Formula.{Formula}
use Rattle.lv_formula.specs.Symbols.{sym_eq}
use Rattle.lv_formula.specs.Vocabulary.{relation_in, constant_in}
use Rattle.lv_formula.specs.Fits.{all_fit_in, fits_in}
use Rattle.lv_formula.proofs.Folds.{folds_at}
use Rattle.lv_formula.proofs.Induction.{Each, by_cases}
use Rattle.lv_formula.proofs.SymbolLaws.{sym_eq-true, sym_eq-refl}
use Rattle.lv_system.specs.declared.parts.Parts.{Parts}
use Rattle.lv_system.specs.declared.parts.Symbol.{Symbol}
use Rattle.lv_system.specs.Step.{no_symbol, symbol_at}
use Rattle.lv_system.specs.Vocabularies.{relation_sorts, constant_sort, relation_if, constant_if, relations_from, constants_from, any_symbol, is_fixed, fixed_vocabulary, own_vocabulary}
use Rattle.lv_temporal.proofs.Fits.{Extends, atom_more, binder_more, same_more}

module _ (voc more : Vocabulary) (extends : Extends voc more) where
  both_more : (a b c d : Bool) → (a ≡ true → c ≡ true) → (b ≡ true → d ≡ true) → (a && b) ≡ true → (c && d) ≡ true
  both_more a b c d h k e = let both = and_parts a b e in and_from c d (h both.0) (k both.1)

  abbrev More : Formula → Type 0
  More f = (context : List SortId) → fits_in voc context f ≡ true → fits_in more context f ≡ true

  all_more : (fs : List Formula) → Each More fs → (context : List SortId) → all_fit_in voc context fs ≡ true → all_fit_in more context fs ≡ true
  all_more [] each c h = refl
  all_more (f ∷ fs) each c h = both_more (fits_in voc c f) (all_fit_in voc c fs) (fits_in more c f) (all_fit_in more c fs) (each.0 c) (all_more fs each.1 c) h

  -- a formula that fits a vocabulary fits one with more symbols
  pub fits_more : (f : Formula) → More f
  fits_more = by_cases More record {
    at_true = λ c h. simp folds_at refl;
    at_false = λ c h. simp folds_at refl;
    at_atom = λ s ts c h. simp folds_at (atom_more voc more extends c s ts (simp folds_at at h));
    at_same = λ a b c h. simp folds_at (same_more voc more extends c a b (simp folds_at at h));
    at_not = λ f ih c h. simp folds_at (ih c (simp folds_at at h));
    at_and = λ fs each c h. simp folds_at (all_more fs each c (simp folds_at at h));
    at_or = λ fs each c h. simp folds_at (all_more fs each c (simp folds_at at h));
    at_implies = λ f g ihf ihg c h. simp folds_at (both_more (fits_in voc c f) (fits_in voc c g) (fits_in more c f) (fits_in more c g) (ihf c) (ihg c) (simp folds_at at h));
    at_iff = λ f g ihf ihg c h. simp folds_at (both_more (fits_in voc c f) (fits_in voc c g) (fits_in more c f) (fits_in more c g) (ihf c) (ihg c) (simp folds_at at h));
    at_all = λ s f ih c h. simp folds_at (binder_more voc more extends s (fits_in voc (s ∷ c) f) (fits_in more (s ∷ c) f) (ih (s ∷ c)) (simp folds_at at h));
    at_any = λ s f ih c h. simp folds_at (binder_more voc more extends s (fits_in voc (s ∷ c) f) (fits_in more (s ∷ c) f) (ih (s ∷ c)) (simp folds_at at h));
  }

  -- and so do all of a list
  pub all_fit_more : (fs : List Formula) (context : List SortId) → all_fit_in voc context fs ≡ true → all_fit_in more context fs ≡ true
  all_fit_more [] c h = refl
  all_fit_more (f ∷ fs) c h = both_more (fits_in voc c f) (all_fit_in voc c fs) (fits_in more c f) (all_fit_in more c fs) (fits_more f c) (all_fit_more fs c) h

-- ---- the fixed symbols are among the own

own_apart : (i j : ℕ) → (i ≡ j → ⊥) → sym_eq (Own i) (Own j) ≡ false
unfolding sym_eq
own_apart i j h = ne_eqb i j h

-- a symbol that is found among those numbered from b on has a number from b on
abbrev From : ℕ → Sym → Type 0
From b c = (n : ℕ) × (b ≤ n) × (c ≡ Own n)

before : (b : ℕ) (c : Sym) → From (suc b) c → sym_eq (Own b) c ≡ false
before b c w = ap (sym_eq (Own b)) w.2 ∙ own_apart b w.0 (λ e. omega (arith, e, w.1))

earlier : (b : ℕ) (c : Sym) → From (suc b) c → From b c
earlier b c w = (w.0, omega (arith, w.1), w.2)

here : (b : ℕ) (c : Sym) → sym_eq (Own b) c ≡ true → From b c
here b c e = (b, omega arith, sym (sym_eq-true (Own b) c e))

relation_from : (test : Symbol → Bool) (b : ℕ) (ss : List Symbol) (c : Sym) (v : List SortId) → relation_in (relations_from test Own b ss) c ≡ Some v → From b c
relation_from test b [] c v h = cc
relation_from test b (s ∷ ss) c v h = go (relation_sorts s.shape) (test s) h (relation_from test (suc b) ss c v)
  where
    found : (v' : List SortId) (t : Bool) → sym_eq (Own b) c ≡ t → cond t (Some v') (relation_in (relations_from test Own (suc b) ss) c) ≡ Some v → (relation_in (relations_from test Own (suc b) ss) c ≡ Some v → From (suc b) c) → From b c
    found v' true e k ih = here b c e
    found v' false e k ih = earlier b c (ih k)

    go : (o : Option (List SortId)) (t : Bool) → relation_in (relation_if t (Own b) o (relations_from test Own (suc b) ss)) c ≡ Some v → (relation_in (relations_from test Own (suc b) ss) c ≡ Some v → From (suc b) c) → From b c
    go None t k ih = earlier b c (ih k)
    go (Some v') true k ih = found v' (sym_eq (Own b) c) refl k ih
    go (Some v') false k ih = earlier b c (ih k)

constant_from : (test : Symbol → Bool) (b : ℕ) (ss : List Symbol) (c : Sym) (v : SortId) → constant_in (constants_from test Own b ss) c ≡ Some v → From b c
constant_from test b [] c v h = cc
constant_from test b (s ∷ ss) c v h = go (constant_sort s.shape) (test s) h (constant_from test (suc b) ss c v)
  where
    found : (v' : SortId) (t : Bool) → sym_eq (Own b) c ≡ t → cond t (Some v') (constant_in (constants_from test Own (suc b) ss) c) ≡ Some v → (constant_in (constants_from test Own (suc b) ss) c ≡ Some v → From (suc b) c) → From b c
    found v' true e k ih = here b c e
    found v' false e k ih = earlier b c (ih k)

    go : (o : Option SortId) (t : Bool) → constant_in (constant_if t (Own b) o (constants_from test Own (suc b) ss)) c ≡ Some v → (constant_in (constants_from test Own (suc b) ss) c ≡ Some v → From (suc b) c) → From b c
    go None t k ih = earlier b c (ih k)
    go (Some v') true k ih = found v' (sym_eq (Own b) c) refl k ih
    go (Some v') false k ih = earlier b c (ih k)

fixed_relation : (b : ℕ) (ss : List Symbol) (c : Sym) (v : List SortId) → relation_in (relations_from is_fixed Own b ss) c ≡ Some v → relation_in (relations_from any_symbol Own b ss) c ≡ Some v
fixed_relation b [] c v h = h
fixed_relation b (s ∷ ss) c v h = go (relation_sorts s.shape) s.fixed h (fixed_relation (suc b) ss c v)
  where
    found : (v' : List SortId) (t : Bool) → cond t (Some v') (relation_in (relations_from is_fixed Own (suc b) ss) c) ≡ Some v → (relation_in (relations_from is_fixed Own (suc b) ss) c ≡ Some v → relation_in (relations_from any_symbol Own (suc b) ss) c ≡ Some v)
        → cond t (Some v') (relation_in (relations_from any_symbol Own (suc b) ss) c) ≡ Some v
    found v' true k ih = k
    found v' false k ih = ih k

    go : (o : Option (List SortId)) (t : Bool) → relation_in (relation_if t (Own b) o (relations_from is_fixed Own (suc b) ss)) c ≡ Some v → (relation_in (relations_from is_fixed Own (suc b) ss) c ≡ Some v → relation_in (relations_from any_symbol Own (suc b) ss) c ≡ Some v)
        → relation_in (relation_if true (Own b) o (relations_from any_symbol Own (suc b) ss)) c ≡ Some v
    go None t k ih = ih k
    go (Some v') true k ih = found v' (sym_eq (Own b) c) k ih
    go (Some v') false k ih = ap (λ t. cond t (Some v') (relation_in (relations_from any_symbol Own (suc b) ss) c)) (before b c (relation_from is_fixed (suc b) ss c v k)) ∙ ih k

fixed_constant : (b : ℕ) (ss : List Symbol) (c : Sym) (v : SortId) → constant_in (constants_from is_fixed Own b ss) c ≡ Some v → constant_in (constants_from any_symbol Own b ss) c ≡ Some v
fixed_constant b [] c v h = h
fixed_constant b (s ∷ ss) c v h = go (constant_sort s.shape) s.fixed h (fixed_constant (suc b) ss c v)
  where
    found : (v' : SortId) (t : Bool) → cond t (Some v') (constant_in (constants_from is_fixed Own (suc b) ss) c) ≡ Some v → (constant_in (constants_from is_fixed Own (suc b) ss) c ≡ Some v → constant_in (constants_from any_symbol Own (suc b) ss) c ≡ Some v)
        → cond t (Some v') (constant_in (constants_from any_symbol Own (suc b) ss) c) ≡ Some v
    found v' true k ih = k
    found v' false k ih = ih k

    go : (o : Option SortId) (t : Bool) → constant_in (constant_if t (Own b) o (constants_from is_fixed Own (suc b) ss)) c ≡ Some v → (constant_in (constants_from is_fixed Own (suc b) ss) c ≡ Some v → constant_in (constants_from any_symbol Own (suc b) ss) c ≡ Some v)
        → constant_in (constant_if true (Own b) o (constants_from any_symbol Own (suc b) ss)) c ≡ Some v
    go None t k ih = ih k
    go (Some v') true k ih = found v' (sym_eq (Own b) c) k ih
    go (Some v') false k ih = ap (λ t. cond t (Some v') (constant_in (constants_from any_symbol Own (suc b) ss) c)) (before b c (constant_from is_fixed (suc b) ss c v k)) ∙ ih k

-- the fixed symbols are among the own symbols
pub fixed_extends : (p : Parts) → Extends (fixed_vocabulary p) (own_vocabulary p)
fixed_extends p = record { sorts = refl; relations = λ r v h. fixed_relation 0 p.symbols r v h; constants = λ c v h. fixed_constant 0 p.symbols c v h }

-- ---- an own constant is found

own_found : (b : ℕ) (ss : List Symbol) (n : ℕ) (v : SortId) → n < length ss → constant_sort (get_or ss n no_symbol).shape ≡ Some v → constant_in (constants_from any_symbol Own b ss) (Own (b + n)) ≡ Some v
own_found b [] n v lt h = absurd (omega arith)
own_found b (s ∷ ss) zero v lt h = ap (λ o. constant_in (constant_if true (Own b) o (constants_from any_symbol Own (suc b) ss)) (Own (b + 0))) h
    ∙ ap (λ t. cond t (Some v) (constant_in (constants_from any_symbol Own (suc b) ss) (Own (b + 0)))) (ap (λ x. sym_eq (Own b) (Own x)) (plus_zero b) ∙ sym_eq-refl (Own b))
  where
    plus_zero : (b : ℕ) → b + 0 ≡ b
    plus_zero b = omega arith
own_found b (s ∷ ss) (suc n) v lt h = go (constant_sort s.shape) (ap (λ x. constant_in (constants_from any_symbol Own (suc b) ss) (Own x)) (plus_suc b n) ∙ own_found (suc b) ss n v (omega arith) h)
  where
    plus_suc : (b n : ℕ) → b + suc n ≡ suc b + n
    plus_suc b n = omega arith

    apart : (b n : ℕ) → b ≡ b + suc n → ⊥
    apart b n e = omega (arith, e)

    go : (o : Option SortId) → constant_in (constants_from any_symbol Own (suc b) ss) (Own (b + suc n)) ≡ Some v → constant_in (constant_if true (Own b) o (constants_from any_symbol Own (suc b) ss)) (Own (b + suc n)) ≡ Some v
    go None k = k
    go (Some v') k = ap (λ t. cond t (Some v') (constant_in (constants_from any_symbol Own (suc b) ss) (Own (b + suc n)))) (own_apart b (b + suc n) (apart b n)) ∙ k

-- the sort of a symbol that is a constant is found under its number
pub own_constant_found : (p : Parts) (n : ℕ) (v : SortId) → n < length p.symbols → constant_sort (symbol_at p n).shape ≡ Some v → constant_in (own_vocabulary p).constants (Own n) ≡ Some v
own_constant_found p n v lt h = ap (λ x. constant_in (own_vocabulary p).constants (Own x)) (zero_plus n) ∙ own_found 0 p.symbols n v lt h
  where
    zero_plus : (n : ℕ) → n ≡ 0 + n
    zero_plus n = omega arith
