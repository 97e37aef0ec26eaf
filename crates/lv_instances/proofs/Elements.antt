-- Each term of a universe has an element of a structure.
use Rattle.std.proofs.Common.{◌≡◌, ℕ, zero, suc, ◌<◌, ◌≤◌, List, [], ◌∷◌, map, Option, Some, None, refl, sym, ap, ◌∙◌, subst, arith}
use Rattle.std.specs.Prelude.{slice_get}
use Rattle.lv_formula.specs.declared.symbols.SortId.{SortId}
use Rattle.lv_formula.specs.declared.symbols.Sym.{Sym}
use Rattle.lv_formula.specs.Vocabulary.{constant_in}
use Rattle.lv_formula.specs.Meaning.{Meaning, IsStructureOf}
use Rattle.lv_places.specs.declared.skolem.Place.{Place}
use Rattle.lv_places.specs.declared.skolem.Skolem.{Skolem}
use Rattle.lv_places.specs.declared.terms.TermId.{TermId}
use Rattle.lv_places.specs.declared.terms.GroundTerm.{GroundTerm}
use Rattle.lv_places.specs.declared.terms.GroundTerm.TheVariants.{Constant, Place as PlaceTerm, Extra}
use Rattle.lv_places.specs.Places.{Site, place_of, site_sorts}
use Rattle.lv_places.specs.Universes.{argument_sorts, terms_of, counts, IsUniverse}
use Rattle.lv_places.specs.GroundForms.{naming_of}
use Rattle.lv_places.specs.SortGraphs.{RanksBelow, IsRank}
use Rattle.lv_places.proofs.Tests.{least_in}
use Rattle.lv_skolem.proofs.Sorted.{vocabulary_of}
use Rattle.lv_places.proofs.Arguments.{argument_sorts_are}
use Rattle.lv_places.proofs.Universes.{IsTerm, AreTerms, IsSound, IsRanged, get_unmap, term_is_sound, place_stands, constant_is, constant_stands_at}
use Rattle.lv_places.proofs.Sites.{place_there}
use Rattle.lv_instances.proofs.Choices.{skolem}
use Rattle.lv_instances.proofs.Rise.{Reads}

-- the element of a term, where its sort's rank is below n
abbrev place_element : Meaning → Option Site → List ℕ → ℕ
place_element m None vs = 0
place_element m (Some p) vs = skolem m p vs

abbrev term_element : Meaning → List Site → (TermId → ℕ) → Option GroundTerm → ℕ
term_element m table f None = 0
term_element m table f (Some (Constant c)) = m.value c
term_element m table f (Some (PlaceTerm k ts)) = place_element m (slice_get table k) (map f ts)
term_element m table f (Some Extra) = 0

abbrev reading : Meaning → List Site → List (List GroundTerm) → ℕ → TermId → ℕ
reading m table u zero t = 0
reading m table u (suc n) t = term_element m table (reading m table u n) (slice_get (terms_of u t.sort) t.place)

module _ (sk : Skolem) (u : List (List GroundTerm)) (is : IsUniverse sk u) (range : IsRanged sk) (table : List Site)
    (places : sk.places ≡ map place_of table) (m : Meaning) (rank : SortId → ℕ) (ranks : IsRank sk.places rank) where
  abbrev N : SortId → ℕ
  N = counts u

  -- more fuel gives the same element
  args_same : (n k b : ℕ) (ss : List SortId) (ts : List TermId) → ((s : SortId) (t : TermId) → IsTerm N s t → rank s < n → rank s < k
      → reading m table u n t ≡ reading m table u k t) → b ≤ n → b ≤ k → RanksBelow rank b ss → AreTerms N ss ts → map (reading m table u n) ts ≡ map
      (reading m table u k) ts
  args_same n k b [] [] ih ln lk below are = refl
  args_same n k b [] (t ∷ ts) ih ln lk below are = absurd are
  args_same n k b (s ∷ ss) [] ih ln lk below are = absurd are
  args_same n k b (s ∷ ss) (t ∷ ts) ih ln lk below are =
      let p = ih s t are.0 (omega (arith, below.0)) (omega (arith, below.0)) in
      let q = args_same n k b ss ts ih ln lk below.1 are.1 in
      cc

  same_element : (n k : ℕ) (s : SortId) (x : GroundTerm) → ((s : SortId) (t : TermId) → IsTerm N s t → rank s < n → rank s < k
      → reading m table u n t ≡ reading m table u k t) → rank s ≤ n → rank s ≤ k → IsSound sk N s x → term_element m table (reading m table u n)
      (Some x) ≡ term_element m table (reading m table u k) (Some x)
  same_element n k s (Constant c) ih ln lk sound = refl
  same_element n k s (PlaceTerm j ts) ih ln lk sound =
      let p = sound.0 in
      let below = ranks j p sound.1 in
      let e = ap rank sound.2 in
      ap (place_element m (slice_get table j)) (args_same n k (rank p.sort) (argument_sorts p) ts ih (omega arith) (omega arith) below sound.3)
  same_element n k s Extra ih ln lk sound = refl

  reading_same : (n k : ℕ) (s : SortId) (t : TermId) → IsTerm N s t → rank s < n → rank s < k → reading m table u n t ≡ reading m table u k t
  reading_same zero k s t h ln lk = absurd (omega arith)
  reading_same (suc n) zero s t h ln lk = absurd (omega arith)
  reading_same (suc n) (suc k) s t h ln lk =
      let f = term_is_sound sk u is range s t h in
      let at : slice_get (terms_of u t.sort) t.place ≡ Some f.0 = subst (λ z. slice_get (terms_of u z) t.place ≡ Some f.0) (sym h.sort_is) f.1 in
      ap (term_element m table (reading m table u n)) at ∙ same_element n k s f.0 (λ s t h l1 l2. reading_same n k s t h l1 l2) (omega arith)
      (omega arith) f.2 ∙ sym (ap (term_element m table (reading m table u k)) at)

  abbrev pub element_of : TermId → ℕ
  element_of t = reading m table u (suc (rank t.sort)) t

  args_read : (b : ℕ) (ss : List SortId) (ts : List TermId) → RanksBelow rank b ss → AreTerms N ss ts → map (reading m table u b) ts ≡ map element_of ts
  args_read b [] [] below are = refl
  args_read b [] (t ∷ ts) below are = absurd are
  args_read b (s ∷ ss) [] below are = absurd are
  args_read b (s ∷ ss) (t ∷ ts) below are =
      let e = ap rank (are.0).sort_is in
      let p = reading_same b (suc (rank t.sort)) s t are.0 below.0 (omega arith) in
      let q = args_read b ss ts below.1 are.1 in
      cc

  pub reads_so : IsStructureOf (vocabulary_of sk) m → Reads m (vocabulary_of sk) (naming_of sk N) table element_of
  reads_so sound = record {
    constant = constants;
    place = sites;
    within = within;
  }
    where
      constants : (c : Sym) (s : SortId) → constant_in sk.constants c ≡ Some s → element_of ((naming_of sk N).constant c) ≡ m.value c
      constants c s h =
          let t = (naming_of sk N).constant c in
          let at = subst (λ z. slice_get (terms_of u z) t.place ≡ Some (Constant c)) (sym (constant_is sk u is range c s h))
          (constant_stands_at sk u is range c s h) in
          ap (term_element m table (reading m table u (rank t.sort))) at

      sites : (k : ℕ) (p : Site) (ts : List TermId) → slice_get table k ≡ Some p → AreTerms N (site_sorts p) ts
          → element_of ((naming_of sk N).place p.sort k ts) ≡ skolem m p (map element_of ts)
      sites k p ts h are =
          let are' = subst (λ ss. AreTerms N ss ts) (sym (argument_sorts_are p)) are in
          ap (term_element m table (reading m table u (rank p.sort)))
          (place_stands sk u is range k (place_of p) ts (place_there sk u is range table places k p h) are')
          ∙ ap (λ o. place_element m o (map (reading m table u (rank p.sort)) ts)) h
          ∙ ap (skolem m p) (args_read (rank p.sort) (argument_sorts (place_of p)) ts (ranks k (place_of p) (place_there sk u is range table places k p h))
          are')

      element_within : (s : SortId) (x : GroundTerm) (f : TermId → ℕ) → IsSound sk N s x → term_element m table f (Some x) < m.size s
      element_within s (Constant c) f h = sound.constants c s h
      element_within s (PlaceTerm k ts) f h =
          let q = get_unmap place_of table k h.0 (sym (ap (λ l. slice_get l k) places) ∙ h.1) in
          let p = q.0 in
          let e = ap (λ o. place_element m o (map f ts)) q.1 in
          let so : p.sort ≡ s = ap (λ (z : Place). z.sort) q.2 ∙ h.2 in
          let l : skolem m p (map f ts) < m.size p.sort = least_in (m.size p.sort) _ (sound.sizes p.sort) in
          subst (λ v. v < m.size s) (sym e) (subst (λ z. skolem m p (map f ts) < m.size z) so l)
      element_within s Extra f h = sound.sizes s

      within : (s : SortId) (t : TermId) → IsTerm N s t → element_of t < m.size s
      within s t h =
          let f = term_is_sound sk u is range s t h in
          let at : slice_get (terms_of u t.sort) t.place ≡ Some f.0 = subst (λ z. slice_get (terms_of u z) t.place ≡ Some f.0) (sym h.sort_is) f.1 in
          subst (λ e. e < m.size s) (sym (ap (term_element m table (reading m table u (rank t.sort))) at))
          (element_within s f.0 (reading m table u (rank t.sort)) f.2)
