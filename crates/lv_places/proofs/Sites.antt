-- Lists that stand in a table, and lists of terms for what stands around a place.
use mathlib.Core.List.{reverse_aux}
use Rattle.std.proofs.Common.{◌≡◌, ℕ, zero, suc, ◌+◌, ◌<◌, Bool, true, false, cond, List, [], ◌∷◌, ◌++◌, length, map, get_or, Some, refl, sym, ap, ◌∙◌, subst, arith, append_assoc, length-append}
use Rattle.std.specs.Prelude.{slice_get}
use Rattle.lv_formula.specs.declared.symbols.SortId.{SortId}
use Rattle.lv_places.specs.declared.skolem.Skolem.{Skolem}
use Rattle.lv_places.specs.declared.terms.TermId.{TermId}
use Rattle.lv_places.specs.declared.terms.GroundTerm.{GroundTerm}
use Rattle.lv_places.specs.Forms.{Form}
use Rattle.lv_places.specs.Places.{Binder, place_needs, keep, chosen_of, Site, site_sorts, place_of}
use Rattle.lv_places.specs.Universes.{IsUniverse, counts}
use Rattle.lv_places.specs.GroundForms.{Naming, naming_of}
use Rattle.lv_places.proofs.Arguments.{argument_sorts_are}
use Rattle.lv_places.proofs.Universes.{IsTerm, AreTerms, IsRanged, get_map, places_are_terms}

-- these stand in the table from this number on
abbrev pub HasAt : {A : Type 0} → List A → ℕ → List A → Type 0
HasAt table k [] = Unit {0}
HasAt table k (p ∷ ps) = (slice_get table k ≡ Some p) × HasAt table (suc k) ps

pub has_front : {A : Type 0} (table : List A) (k : ℕ) (a b : List A) → HasAt table k (a ++ b) → HasAt table k a
has_front table k [] b h = tt
has_front table k (p ∷ a) b h = (h.0, has_front table (suc k) a b h.1)

pub has_back : {A : Type 0} (table : List A) (k : ℕ) (a b : List A) → HasAt table k (a ++ b) → HasAt table (k + length a) b
has_back table k [] b h = let e : k ≡ k + 0 = omega arith in subst (λ n. HasAt table n b) e h
has_back table k (p ∷ a) b h =
    let e : suc k + length a ≡ k + length (p ∷ a) = omega arith in
    subst (λ n. HasAt table n b) e (has_back table (suc k) a b h.1)

at_seam : {A : Type 0} (pre : List A) (x : A) (xs : List A) → slice_get (pre ++ x ∷ xs) (length pre) ≡ Some x
at_seam [] x xs = refl
at_seam (y ∷ pre) x xs = at_seam pre x xs

pub has_self : {A : Type 0} (pre xs : List A) → HasAt (pre ++ xs) (length pre) xs
has_self pre [] = tt
has_self pre (x ∷ xs) =
    let e : (pre ++ (x ∷ [])) ++ xs ≡ pre ++ x ∷ xs = append_assoc pre (x ∷ []) xs in
    let n : length (pre ++ (x ∷ [])) ≡ suc (length pre) = omega (arith, length-append pre (x ∷ [])) in
    let r = has_self (pre ++ (x ∷ [])) xs in
    let r' = subst (λ l. HasAt l (length (pre ++ (x ∷ []))) xs) e r in
    (at_seam pre x xs, subst (λ k. HasAt (pre ++ x ∷ xs) k xs) n r')

-- a variable's sort shows that it is in scope
pub found_below : (ss : List SortId) (x : ℕ) (s : SortId) → slice_get ss x ≡ Some s → x < length ss
found_below [] x s h = absurd (cc)
found_below (a ∷ ss) zero s h = omega arith
found_below (a ∷ ss) (suc x) s h = let r = found_below ss x s h in omega (arith, r)

-- lists of terms, kept and turned
keep_step : (n : SortId → ℕ) (b : Bool) (s : SortId) (ss : List SortId) (t : TermId) (ts : List TermId) → IsTerm n s t → AreTerms n ss ts
    → AreTerms n (cond b (s ∷ ss) ss) (cond b (t ∷ ts) ts)
keep_step n true s ss t ts h hs = (h, hs)
keep_step n false s ss t ts h hs = hs

are_kept : (n : SortId → ℕ) (p : ℕ → Bool) (ss : List SortId) (ts : List TermId) → AreTerms n ss ts → AreTerms n (keep p ss) (keep p ts)
are_kept n p [] [] h = tt
are_kept n p [] (t ∷ ts) h = absurd h
are_kept n p (s ∷ ss) [] h = absurd h
are_kept n p (s ∷ ss) (t ∷ ts) h = keep_step n (p 0) s _ t _ h.0 (are_kept n (λ i. p (suc i)) ss ts h.1)

are_turned_onto : (n : SortId → ℕ) (ss more : List SortId) (ts bs : List TermId) → AreTerms n ss ts → AreTerms n more bs
    → AreTerms n (reverse_aux ss more) (reverse_aux ts bs)
are_turned_onto n [] more [] bs h k = k
are_turned_onto n [] more (t ∷ ts) bs h k = absurd h
are_turned_onto n (s ∷ ss) more [] bs h k = absurd h
are_turned_onto n (s ∷ ss) more (t ∷ ts) bs h k = are_turned_onto n ss (s ∷ more) ts (t ∷ bs) h.1 (h.0, k)

-- the terms of a place's arguments have the sorts of its arguments
pub are_chosen : (n : SortId → ℕ) (g : List Binder) (f : Form) (ss : List SortId) (ts : List TermId) → AreTerms n ss ts
    → AreTerms n (chosen_of g f ss) (chosen_of g f ts)
are_chosen n g f ss ts h = are_turned_onto n _ [] _ [] (are_kept n (place_needs g f) ss ts h) tt

-- the term at a place of a tuple is one of the sort there
pub term_at : (n : SortId → ℕ) (ss : List SortId) (ts : List TermId) (j : ℕ) (s0 : SortId) (d : TermId) → AreTerms n ss ts → j < length ss
    → IsTerm n (get_or ss j s0) (get_or ts j d)
term_at n [] ts j s0 d h l = absurd (omega arith)
term_at n (s ∷ ss) [] j s0 d h l = absurd h
term_at n (s ∷ ss) (t ∷ ts) zero s0 d h l = h.0
term_at n (s ∷ ss) (t ∷ ts) (suc j) s0 d h l = term_at n ss ts j s0 d h.1 (omega arith)

-- a place's term at terms of its arguments' sorts is a term of its sort
abbrev pub SitesAreTerms : Naming → List Site → Type 0
SitesAreTerms u table = (k : ℕ) (p : Site) (ts : List TermId) → slice_get table k ≡ Some p → AreTerms u.count (site_sorts p) ts
    → IsTerm u.count p.sort (u.place p.sort k ts)

module _ (sk : Skolem) (u : List (List GroundTerm)) (is : IsUniverse sk u) (range : IsRanged sk) (table : List Site)
    (places : sk.places ≡ map place_of table) where
  pub place_there : (k : ℕ) (p : Site) → slice_get table k ≡ Some p → slice_get sk.places k ≡ Some (place_of p)
  place_there k p h = ap (λ l. slice_get l k) places ∙ get_map place_of table k p h

  pub sites_are_terms : SitesAreTerms (naming_of sk (counts u)) table
  sites_are_terms k p ts h are =
      places_are_terms sk u is range k (place_of p) ts (place_there k p h) (subst (λ ss. AreTerms (counts u) ss ts) (sym (argument_sorts_are p)) are)
