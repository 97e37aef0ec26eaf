-- A structure that meets the forms gives the ground atoms truth values that meet the ground forms.
use Rattle.std.proofs.Common.{◌≡◌, ℕ, zero, suc, ◌+◌, ◌<◌, ◌≤◌, Bool, true, List, [], ◌∷◌, length, map, reverse, get_or, Some, refl, sym, ap, ◌∙◌, arith, eqb}
use Rattle.std.specs.Prelude.{slice_get}
use Rattle.std.proofs.lemmas.Bool.{and_parts, and_from, or_cases, or_left, or_right}
use Rattle.std.proofs.lemmas.List.{get_or-map}
use Rattle.lv_formula.specs.declared.symbols.SortId.{SortId}
use Rattle.lv_formula.specs.declared.symbols.Sym.{Sym}
use Rattle.lv_formula.specs.declared.terms.Term.{Term}
use Rattle.lv_formula.specs.declared.terms.Term.TheVariants.{Var, Const}
use Rattle.lv_formula.specs.declared.vocabulary.Vocabulary.{Vocabulary}
use Rattle.lv_formula.specs.Vocabulary.{constant_in}
use Rattle.lv_formula.specs.Meaning.{Meaning}
use Rattle.lv_formula.specs.Truth.{value_of, values_of}
use Rattle.lv_formula.proofs.Readings.{all_below-each}
use Rattle.lv_cnf.specs.Literals.{signed}
use Rattle.lv_places.specs.declared.terms.TermId.{TermId}
use Rattle.lv_places.specs.declared.grounded.GroundAtom.{GroundAtom}
use Rattle.lv_places.specs.declared.grounded.GroundAtom.TheVariants.{Relation, Equal}
use Rattle.lv_places.specs.Forms.{Atom, Rel, Same, Form, Yes, No, Lit, And, Or, All, Any, Forms, Nil, Cons}
use Rattle.lv_places.specs.Places.{Binder, Every, Chosen, sort_of, place_needs, Site, site_sorts, chosen_of, sites, sites_all}
use Rattle.lv_places.specs.Universes.{term}
use Rattle.lv_places.specs.GroundForms.{Naming, term_id, ground_atom, Tree, each, ground_form, ground_all, holds, holds_all, holds_any}
use Rattle.lv_places.proofs.Tests.{either, least_passes}
use Rattle.lv_skolem.proofs.Meets.{atom_true, meets, meets_all, meets_any}
use Rattle.lv_places.proofs.Marks.{place_needs_below}
use Rattle.lv_skolem.proofs.Sorted.{TermFits, TermsFit, AtomFits, FormFits, FormsFit}
use Rattle.lv_places.proofs.Universes.{IsTerm, AreTerms, same_length}
use Rattle.lv_places.proofs.Sites.{HasAt, has_front, has_back, found_below, are_chosen, SitesAreTerms}
use Rattle.lv_instances.proofs.Choices.{choice, complete, skolem, spread, choice_same, spread_keep, arguments_back, length-complete}

-- each term of the universe has an element, as the structure and the least choices give it
pub record Reads (m : Meaning) (voc : Vocabulary) (u : Naming) (table : List Site) (I : TermId → ℕ) : Type 0 where
  pub constant : (c : Sym) (s : SortId) → constant_in voc.constants c ≡ Some s → I (u.constant c) ≡ m.value c
  pub place : (k : ℕ) (p : Site) (ts : List TermId) → slice_get table k ≡ Some p → AreTerms u.count (site_sorts p) ts
      → I (u.place p.sort k ts) ≡ skolem m p (map I ts)
  pub within : (s : SortId) (t : TermId) → IsTerm u.count s t → I t < m.size s

-- the truth value of a ground atom
abbrev pub atom_value : Meaning → (TermId → ℕ) → GroundAtom → Bool
atom_value m I (Relation r ts) = m.holds r (map I ts)
atom_value m I (Equal a b) = eqb (I a) (I b)

holds_each : (v : GroundAtom → Bool) (k n : ℕ) (h : ℕ → Tree) → ((i : ℕ) → k ≤ i → i < k + n → holds v (h i) ≡ true) → holds_all v (each k n h) ≡ true
holds_each v k zero h q = refl
holds_each v k (suc n) h q = and_from _ _ (q k (omega arith) (omega arith)) (holds_each v (suc k) n h (λ i l r. q i (omega arith) (omega arith)))

joined : (a b : ℕ) (xs ys : List ℕ) → a ≡ b → xs ≡ ys → a ∷ xs ≡ b ∷ ys
joined a b xs ys p q = cc

module _ (m : Meaning) (voc : Vocabulary) (u : Naming) (table : List Site) (I : TermId → ℕ) (reads : Reads m voc u table I)
    (closed : SitesAreTerms u table) where
  term_reads : (ss : List SortId) (env : List TermId) (s : SortId) (t : Term) → AreTerms u.count ss env → TermFits voc ss s t
      → I (term_id u env t) ≡ value_of m (map I env) t
  term_reads ss env s (Var x) are fits =
      let l = found_below ss x s fits in
      let n = same_length u.count ss env are in
      sym (get_or-map I env x (term (record { 0 = 0 }) 0) 0 (omega arith))
  term_reads ss env s (Const c) are fits = reads.constant c s fits

  terms_read : (ss : List SortId) (env : List TermId) (more : List SortId) (ts : List Term) → AreTerms u.count ss env → TermsFit voc ss more ts
      → map I (map (term_id u env) ts) ≡ values_of m (map I env) ts
  terms_read ss env [] [] are fits = refl
  terms_read ss env [] (t ∷ ts) are fits = absurd fits
  terms_read ss env (s ∷ more) [] are fits = absurd fits
  terms_read ss env (s ∷ more) (t ∷ ts) are fits =
      let p = term_reads ss env s t are fits.0 in
      let q = terms_read ss env more ts are fits.1 in
      cc

  atom_reads : (ss : List SortId) (env : List TermId) (a : Atom) → AreTerms u.count ss env → AtomFits voc ss a
      → atom_value m I (ground_atom u env a) ≡ atom_true m (map I env) a
  atom_reads ss env (Rel r ts) are fits = ap (m.holds r) (terms_read ss env fits.0 ts are fits.2)
  atom_reads ss env (Same a b) are fits =
      let p = term_reads ss env fits.0 a are fits.1 in
      let q = term_reads ss env fits.0 b are fits.2 in
      cc

  -- the elements that the terms of an environment have are those that the least choices give
  abbrev Chosen_so : List Binder → List TermId → Type 0
  Chosen_so g env = complete m g (λ i. get_or (map I env) i 0) ≡ map I env

  place_reads : (g : List Binder) (env : List TermId) (k : ℕ) (s : SortId) (f : Form) → slice_get table k ≡ Some
      (record { around = g; sort = s; body = f }) → AreTerms u.count (map sort_of g) env → Chosen_so g env
      → I (u.place s k (chosen_of g f env)) ≡ choice m s f (map I env)
  place_reads g env k s f has are so =
      let site : Site = record { around = g; sort = s; body = f } in
      let e1 = reads.place k site (chosen_of g f env) has (are_chosen u.count g f (map sort_of g) env are) in
      let e2 = choice_same m g s f (spread (place_needs g f) (reverse (map I (chosen_of g f env)))) (λ i. get_or (map I env) i 0) agree in
      e1 ∙ e2 ∙ ap (choice m s f) so
    where
      agree : (y : ℕ) → place_needs g f y ≡ true → spread (place_needs g f) (reverse (map I (chosen_of g f env))) y ≡ get_or (map I env) y 0
      agree y h =
          let l = place_needs_below g f y h in
          let n = length-complete m g (λ i. get_or (map I env) i 0) in
          let n2 = ap length so in
          rw (arguments_back I g f env) (spread_keep (place_needs g f) (map I env) y (omega arith) h)

  mutual
    pub rises : (f : Form) (k : ℕ) (g : List Binder) (env : List TermId) → HasAt table k (sites g f) → AreTerms u.count (map sort_of g) env
        → FormFits voc (map sort_of g) f → Chosen_so g env → meets m (map I env) f ≡ true → holds (atom_value m I) (ground_form u k g env f) ≡ true
    rises Yes k g env has are fits so h = refl
    rises No k g env has are fits so h = h
    rises (Lit b a) k g env has are fits so h = ap (signed b) (atom_reads (map sort_of g) env a are fits) ∙ h
    rises (And fs) k g env has are fits so h = rises_all fs k g env has are fits so h
    rises (Or fs) k g env has are fits so h = rises_any fs k g env has are fits so h
    rises (All s f) k g env has are fits so h =
        holds_each (atom_value m I) 0 (u.count s) _ (λ i lo l.
        let t : TermId = term s i in
        let is : IsTerm u.count s t = record { sort_is = refl; within = omega arith } in
        rises f k (Every s ∷ g) (t ∷ env) has (is, are) fits.1 (ap (◌∷◌ (I t)) so) (all_below-each (m.size s) (λ x. meets m (x ∷ map I env) f) h (I t)
        (reads.within s t is)))
    rises (Any s f) k g env has are fits so h =
        let t = u.place s k (chosen_of g f env) in
        let e = place_reads g env k s f has.0 are so in
        let is = closed k _ _ has.0 (are_chosen u.count g f (map sort_of g) env are) in
        let c = least_passes (m.size s) (λ e. meets m (e ∷ map I env) f) h in
        let so' : Chosen_so (Chosen s f ∷ g) (t ∷ env) = joined _ _ _ _ (ap (choice m s f) so ∙ sym e) so in
        rises f (suc k) (Chosen s f ∷ g) (t ∷ env) has.1 (is, are) fits.1 so' (rw e c.1)

    pub rises_all : (fs : Forms) (k : ℕ) (g : List Binder) (env : List TermId) → HasAt table k (sites_all g fs) → AreTerms u.count (map sort_of g) env
        → FormsFit voc (map sort_of g) fs → Chosen_so g env → meets_all m (map I env) fs ≡ true → holds_all (atom_value m I)
        (ground_all u k g env fs) ≡ true
    rises_all Nil k g env has are fits so h = refl
    rises_all (Cons f fs) k g env has are fits so h =
        let b = and_parts (meets m (map I env) f) (meets_all m (map I env) fs) h in
        and_from _ _ (rises f k g env (has_front table k (sites g f) _ has) are fits.0 so b.0)
        (rises_all fs _ g env (has_back table k (sites g f) _ has) are fits.1 so b.1)

    rises_any : (fs : Forms) (k : ℕ) (g : List Binder) (env : List TermId) → HasAt table k (sites_all g fs) → AreTerms u.count (map sort_of g) env
        → FormsFit voc (map sort_of g) fs → Chosen_so g env → meets_any m (map I env) fs ≡ true → holds_any (atom_value m I)
        (ground_all u k g env fs) ≡ true
    rises_any Nil k g env has are fits so h = h
    rises_any (Cons f fs) k g env has are fits so h =
        either (or_cases (meets m (map I env) f) (meets_any m (map I env) fs) h)
        (λ q. or_left _ _ (rises f k g env (has_front table k (sites g f) _ has) are fits.0 so q))
        (λ q. or_right _ _ (rises_any fs _ g env (has_back table k (sites g f) _ has) are fits.1 so q))
