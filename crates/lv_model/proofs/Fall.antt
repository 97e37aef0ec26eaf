-- Truth values that meet the ground forms give a structure that meets the forms.
use Rattle.std.proofs.Common.{◌≡◌, ℕ, zero, suc, ◌+◌, ◌<◌, ◌≤◌, Bool, true, List, [], ◌∷◌, get_or, map, Some, refl, sym, ap, ◌∙◌, subst, arith, eqb}
use Rattle.std.specs.Prelude.{slice_get}
use Rattle.std.proofs.lemmas.Bool.{and_parts, and_from, or_cases, or_left, or_right, cases_eq}
use Rattle.std.proofs.lemmas.List.{get_or-map}
use Rattle.lv_formula.specs.declared.symbols.SortId.{SortId}
use Rattle.lv_formula.specs.declared.symbols.Sym.{Sym}
use Rattle.lv_formula.specs.declared.terms.Term.{Term}
use Rattle.lv_formula.specs.declared.terms.Term.TheVariants.{Var, Const}
use Rattle.lv_formula.specs.declared.vocabulary.Vocabulary.{Vocabulary}
use Rattle.lv_formula.specs.Vocabulary.{relation_in, constant_in}
use Rattle.lv_formula.specs.Meaning.{Meaning}
use Rattle.lv_formula.specs.Truth.{value_of, values_of}
use Rattle.lv_formula.proofs.Below.{any_below-holds}
use Rattle.lv_formula.proofs.Readings.{all_below-from}
use Rattle.lv_cnf.specs.Literals.{signed}
use Rattle.lv_places.specs.declared.terms.TermId.{TermId}
use Rattle.lv_places.specs.declared.grounded.GroundAtom.{GroundAtom}
use Rattle.lv_places.specs.declared.grounded.GroundAtom.TheVariants.{Relation, Equal}
use Rattle.lv_places.specs.Forms.{Atom, Rel, Same, Form, Yes, No, Lit, And, Or, All, Any, Forms, Nil, Cons}
use Rattle.lv_places.specs.Places.{Binder, Every, Chosen, sort_of, Site, chosen_of, sites, sites_all}
use Rattle.lv_places.specs.Universes.{term}
use Rattle.lv_places.specs.GroundForms.{Naming, term_id, ground_atom, Tree, each, ground_form, ground_all, holds, holds_all, holds_any}
use Rattle.lv_places.proofs.Tests.{either}
use Rattle.lv_skolem.proofs.Meets.{atom_true, meets, meets_all, meets_any}
use Rattle.lv_skolem.proofs.Sorted.{TermFits, TermsFit, AtomFits, FormFits, FormsFit}
use Rattle.lv_places.proofs.Universes.{IsTerm, AreTerms, same_length, ConstantsAreTerms}
use Rattle.lv_places.proofs.Sites.{HasAt, has_front, has_back, found_below, are_chosen, SitesAreTerms}

-- a structure whose elements are classes of terms
pub record IsQuotient (m : Meaning) (voc : Vocabulary) (u : Naming) (v : GroundAtom → Bool) (class : TermId → ℕ) : Type 0 where
  pub onto : (s : SortId) → s.0 < voc.sorts → (e : ℕ) → e < m.size s → (i : ℕ) × (i < u.count s) × (class (term s i) ≡ e)
  pub within : (s : SortId) (t : TermId) → IsTerm u.count s t → class t < m.size s
  pub constant : (c : Sym) (s : SortId) → constant_in voc.constants c ≡ Some s → m.value c ≡ class (u.constant c)
  pub equal : (s : SortId) (a b : TermId) → IsTerm u.count s a → IsTerm u.count s b → eqb (class a) (class b) ≡ v (Equal a b)
  pub relation : (r : Sym) (ss : List SortId) (ts : List TermId) → relation_in voc.relations r ≡ Some ss → AreTerms u.count ss ts
      → m.holds r (map class ts) ≡ v (Relation r ts)

all_each : (v : GroundAtom → Bool) (k n : ℕ) (h : ℕ → Tree) (i : ℕ) → holds_all v (each k n h) ≡ true → k ≤ i → i < k + n → holds v (h i) ≡ true
all_each v k zero h i q lo l = absurd (omega arith)
all_each v k (suc n) h i q lo l =
    let both = and_parts (holds v (h k)) (holds_all v (each (suc k) n h)) q in
    either (cases_eq i k) (λ e. subst (λ j. holds v (h j) ≡ true) (sym e) both.0) (λ ne. all_each v (suc k) n h i both.1 (omega arith) (omega arith))

variable_is : (n : SortId → ℕ) (ss : List SortId) (env : List TermId) (x : ℕ) (s : SortId) (d : TermId) → AreTerms n ss env → slice_get ss x ≡ Some s
    → IsTerm n s (get_or env x d)
variable_is n [] env x s d are h = absurd (cc)
variable_is n (a ∷ ss) [] x s d are h = absurd are
variable_is n (a ∷ ss) (t ∷ env) zero s d are h = let e : a ≡ s = cc in subst (λ z. IsTerm n z t) e are.0
variable_is n (a ∷ ss) (t ∷ env) (suc x) s d are h = variable_is n ss env x s d are.1 h

module _ (m : Meaning) (voc : Vocabulary) (u : Naming) (table : List Site) (v : GroundAtom → Bool) (class : TermId → ℕ)
    (quotient : IsQuotient m voc u v class) (closed : SitesAreTerms u table) (constants : ConstantsAreTerms u voc.constants) where
  term_is : (ss : List SortId) (env : List TermId) (s : SortId) (t : Term) → AreTerms u.count ss env → TermFits voc ss s t
      → IsTerm u.count s (term_id u env t)
  term_is ss env s (Var x) are fits = variable_is u.count ss env x s _ are fits
  term_is ss env s (Const c) are fits = constants c s fits

  terms_are : (ss : List SortId) (env : List TermId) (more : List SortId) (ts : List Term) → AreTerms u.count ss env → TermsFit voc ss more ts
      → AreTerms u.count more (map (term_id u env) ts)
  terms_are ss env [] [] are fits = tt
  terms_are ss env [] (t ∷ ts) are fits = absurd fits
  terms_are ss env (s ∷ more) [] are fits = absurd fits
  terms_are ss env (s ∷ more) (t ∷ ts) are fits = (term_is ss env s t are fits.0, terms_are ss env more ts are fits.1)

  term_falls : (ss : List SortId) (env : List TermId) (s : SortId) (t : Term) → AreTerms u.count ss env → TermFits voc ss s t
      → value_of m (map class env) t ≡ class (term_id u env t)
  term_falls ss env s (Var x) are fits =
      let n = same_length u.count ss env are in
      let l = found_below ss x s fits in
      get_or-map class env x (term (record { 0 = 0 }) 0) 0 (omega arith)
  term_falls ss env s (Const c) are fits = quotient.constant c s fits

  terms_fall : (ss : List SortId) (env : List TermId) (more : List SortId) (ts : List Term) → AreTerms u.count ss env → TermsFit voc ss more ts
      → values_of m (map class env) ts ≡ map class (map (term_id u env) ts)
  terms_fall ss env [] [] are fits = refl
  terms_fall ss env [] (t ∷ ts) are fits = absurd fits
  terms_fall ss env (s ∷ more) [] are fits = absurd fits
  terms_fall ss env (s ∷ more) (t ∷ ts) are fits =
      let p = term_falls ss env s t are fits.0 in
      let q = terms_fall ss env more ts are fits.1 in
      cc

  atom_falls : (ss : List SortId) (env : List TermId) (a : Atom) → AreTerms u.count ss env → AtomFits voc ss a → atom_true m (map class env) a ≡ v
      (ground_atom u env a)
  atom_falls ss env (Rel r ts) are fits = ap (m.holds r) (terms_fall ss env fits.0 ts are fits.2) ∙ quotient.relation r fits.0 _ fits.1
      (terms_are ss env fits.0 ts are fits.2)
  atom_falls ss env (Same a b) are fits =
      let p = term_falls ss env fits.0 a are fits.1 in
      let q = term_falls ss env fits.0 b are fits.2 in
      let e = quotient.equal fits.0 _ _ (term_is ss env fits.0 a are fits.1) (term_is ss env fits.0 b are fits.2) in
      cc

  mutual
    pub falls : (f : Form) (k : ℕ) (g : List Binder) (env : List TermId) → HasAt table k (sites g f) → AreTerms u.count (map sort_of g) env
        → FormFits voc (map sort_of g) f → holds v (ground_form u k g env f) ≡ true → meets m (map class env) f ≡ true
    falls Yes k g env has are fits h = refl
    falls No k g env has are fits h = h
    falls (Lit b a) k g env has are fits h = ap (signed b) (atom_falls (map sort_of g) env a are fits) ∙ h
    falls (And fs) k g env has are fits h = falls_all fs k g env has are fits h
    falls (Or fs) k g env has are fits h = falls_any fs k g env has are fits h
    falls (All s f) k g env has are fits h =
        all_below-from (m.size s) (λ e. meets m (e ∷ map class env) f) (λ e l.
        let o = quotient.onto s fits.0 e l in
        let t : TermId = term s o.0 in
        let is : IsTerm u.count s t = record { sort_is = refl; within = o.1 } in
        let r = falls f k (Every s ∷ g) (t ∷ env) has (is, are) fits.1 (all_each v 0 (u.count s) _ o.0 h (omega arith) (omega (arith, o.1))) in
        rw (← o.2) r)
    falls (Any s f) k g env has are fits h =
        let t = u.place s k (chosen_of g f env) in
        let is = closed k _ _ has.0 (are_chosen u.count g f (map sort_of g) env are) in
        any_below-holds (m.size s) (λ e. meets m (e ∷ map class env) f) (class t) (quotient.within s t is)
        (falls f (suc k) (Chosen s f ∷ g) (t ∷ env) has.1 (is, are) fits.1 h)

    pub falls_all : (fs : Forms) (k : ℕ) (g : List Binder) (env : List TermId) → HasAt table k (sites_all g fs) → AreTerms u.count (map sort_of g) env
        → FormsFit voc (map sort_of g) fs → holds_all v (ground_all u k g env fs) ≡ true → meets_all m (map class env) fs ≡ true
    falls_all Nil k g env has are fits h = refl
    falls_all (Cons f fs) k g env has are fits h =
        let b = and_parts (holds v (ground_form u k g env f)) _ h in
        and_from _ _ (falls f k g env (has_front table k (sites g f) _ has) are fits.0 b.0)
        (falls_all fs _ g env (has_back table k (sites g f) _ has) are fits.1 b.1)

    pub falls_any : (fs : Forms) (k : ℕ) (g : List Binder) (env : List TermId) → HasAt table k (sites_all g fs) → AreTerms u.count (map sort_of g) env
        → FormsFit voc (map sort_of g) fs → holds_any v (ground_all u k g env fs) ≡ true → meets_any m (map class env) fs ≡ true
    falls_any Nil k g env has are fits h = h
    falls_any (Cons f fs) k g env has are fits h =
        either (or_cases (holds v (ground_form u k g env f)) _ h)
        (λ q. or_left _ _ (falls f k g env (has_front table k (sites g f) _ has) are fits.0 q))
        (λ q. or_right _ _ (falls_any fs _ g env (has_back table k (sites g f) _ has) are fits.1 q))
