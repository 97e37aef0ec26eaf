-- The numbers of a universe's terms, as a list.
use mathlib.Core.Path.{fun_ext}
use Rattle.std.proofs.Common.{◌≡◌, ℕ, zero, suc, ◌+◌, ◌<◌, List, [], ◌∷◌, length, map, get_or, refl, sym, ap, ◌∙◌, subst, arith}
use Rattle.std.proofs.lemmas.List.{length-map}
use Rattle.lv_formula.specs.declared.symbols.SortId.{SortId}
use Rattle.lv_places.specs.declared.skolem.Skolem.{Skolem}
use Rattle.lv_places.specs.declared.terms.GroundTerm.{GroundTerm}
use Rattle.lv_places.specs.Universes.{count_at, counts, constant_terms, place_count, IsUniverse}
use Rattle.lv_places.specs.Sizes.{at_least_one}
use Rattle.lv_places.specs.GroundForms.{naming_of}
use Rattle.lv_places.proofs.Universes.{PlacesAreTerms, ConstantsAreTerms, IsRanged, places_are_terms, constants_are_terms, length-terms_with}

abbrev pub lengths : List (List GroundTerm) → List ℕ
lengths u = map (λ (ts : List GroundTerm). length ts) u

counted : (u : List (List GroundTerm)) (i : ℕ) → get_or (lengths u) i 0 ≡ length (get_or u i [])
counted [] i = refl
counted (ts ∷ u) zero = refl
counted (ts ∷ u) (suc i) = counted u i

pub counts_are : (u : List (List GroundTerm)) → count_at (lengths u) ≡ counts u
counts_are u = fun_ext (λ s. counted u s.0)

positive : (k : ℕ) → 0 < at_least_one k
positive zero = omega arith
positive (suc k) = omega arith

module _ (sk : Skolem) (u : List (List GroundTerm)) (range : IsRanged sk) (is : IsUniverse sk u) (ns : List ℕ) (e : ns ≡ lengths u) where
  same : count_at ns ≡ counts u
  same = ap count_at e ∙ counts_are u

  pub counted_len : length ns ≡ sk.sorts
  counted_len = ap length e ∙ length-map u (λ (ts : List GroundTerm). length ts) ∙ is.sorts

  pub counted_inhabited : (s : SortId) → s.0 < sk.sorts → 0 < count_at ns s
  counted_inhabited s l =
      let p = positive (length (constant_terms s sk.constants) + place_count (counts u) s sk.places) in
      let q = ap length (is.terms s l) ∙ length-terms_with sk (counts u) s in
      let r = ap (λ f. f s) same in
      omega arith

  pub counted_places : PlacesAreTerms (naming_of sk (count_at ns)) sk.places
  counted_places = subst (λ n. PlacesAreTerms (naming_of sk n) sk.places) (sym same) (places_are_terms sk u is range)

  pub counted_constants : ConstantsAreTerms (naming_of sk (count_at ns)) sk.constants
  counted_constants = subst (λ n. ConstantsAreTerms (naming_of sk n) sk.constants) (sym same) (constants_are_terms sk u is range)
