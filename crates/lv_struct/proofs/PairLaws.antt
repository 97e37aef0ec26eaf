-- Lists that are compared place by place.
use Rattle.std.proofs.Common.{◌≡◌, ◌↔◌, suc, Bool, true, false, List, [], ◌∷◌, length, map, refl, sym, ap, ap₂, subst, ◌∙◌}
use Rattle.std.proofs.Math.Bool.{and-false}
use Rattle.std.proofs.lemmas.Bool.{and_parts, and_from}
use Rattle.std.specs.List.{AllZip}
use Rattle.lv_formula.specs.Tuples.{pairwise}

pub lengths_differ : {X Y : Type 0} (p : X → Y → Bool) (xs : List X) (ys : List Y) → (length xs ≡ length ys → ⊥) → pairwise p xs ys ≡ false
lengths_differ p [] [] h = absurd (h refl)
lengths_differ p [] (y ∷ ys) h = refl
lengths_differ p (x ∷ xs) [] h = refl
lengths_differ p (x ∷ xs) (y ∷ ys) h = rw (lengths_differ p xs ys (λ e. h (ap suc e))) (and-false (p x y))

-- a test that tells a fact of two elements tells it of two lists
module _ {X Y : Type 0} (p : X → Y → Bool) (R : X → Y → Type 0) (tells : (x : X) (y : Y) → (p x y ≡ true) ↔ R x y) where
  pub pairs_from_test : (xs : List X) (ys : List Y) → pairwise p xs ys ≡ true → AllZip R xs ys
  pairs_from_test [] [] h = tt
  pairs_from_test [] (y ∷ ys) h = cc
  pairs_from_test (x ∷ xs) [] h = cc
  pairs_from_test (x ∷ xs) (y ∷ ys) h = let both = and_parts (p x y) (pairwise p xs ys) h in
      ((tells x y).0 both.0, pairs_from_test xs ys both.1)

  pub test_from_pairs : (xs : List X) (ys : List Y) → AllZip R xs ys → pairwise p xs ys ≡ true
  test_from_pairs [] [] h = refl
  test_from_pairs [] (y ∷ ys) h = absurd h
  test_from_pairs (x ∷ xs) [] h = absurd h
  test_from_pairs (x ∷ xs) (y ∷ ys) h = and_from (p x y) (pairwise p xs ys) ((tells x y).1 h.0) (test_from_pairs xs ys h.1)

-- the elements of a list, seen through a function, are those of another list
module _ {X Y : Type 0} (f : X → Y) where
  pub mapped_from_pairs : (xs : List X) (ys : List Y) → AllZip (λ x y. f x ≡ y) xs ys → map f xs ≡ ys
  mapped_from_pairs [] [] h = refl
  mapped_from_pairs [] (y ∷ ys) h = absurd h
  mapped_from_pairs (x ∷ xs) [] h = absurd h
  mapped_from_pairs (x ∷ xs) (y ∷ ys) h = ap₂ (λ z zs. z ∷ zs) h.0 (mapped_from_pairs xs ys h.1)

  pairs_with_mapped : (xs : List X) → AllZip (λ x y. f x ≡ y) xs (map f xs)
  pairs_with_mapped [] = tt
  pairs_with_mapped (x ∷ xs) = (refl, pairs_with_mapped xs)

  pub pairs_from_mapped : (xs : List X) (ys : List Y) → map f xs ≡ ys → AllZip (λ x y. f x ≡ y) xs ys
  pairs_from_mapped xs ys e = subst (λ zs. AllZip (λ x y. f x ≡ y) xs zs) e (pairs_with_mapped xs)

-- a test that tells what a function gives
module _ {X Y : Type 0} (p : X → Y → Bool) (f : X → Y) (tells : (x : X) (y : Y) → (p x y ≡ true) ↔ (f x ≡ y)) where
  pub test_tells_mapped : (xs : List X) (ys : List Y) → (pairwise p xs ys ≡ true) ↔ (map f xs ≡ ys)
  test_tells_mapped xs ys = (
    (λ h. mapped_from_pairs f xs ys (pairs_from_test p (λ x y. f x ≡ y) tells xs ys h)),
    (λ e. test_from_pairs p (λ x y. f x ≡ y) tells xs ys (pairs_from_mapped f xs ys e)),
  )

-- a test that tells equality
module _ {X : Type 0} (p : X → X → Bool) (tells : (x y : X) → (p x y ≡ true) ↔ (x ≡ y)) where
  same_map : (xs : List X) → map (λ x. x) xs ≡ xs
  same_map [] = refl
  same_map (x ∷ xs) = ap (λ zs. x ∷ zs) (same_map xs)

  pub test_tells_equal : (xs ys : List X) → (pairwise p xs ys ≡ true) ↔ (xs ≡ ys)
  test_tells_equal xs ys = let it = test_tells_mapped p (λ x. x) tells xs ys in
      ((λ h. sym (same_map xs) ∙ it.0 h), (λ e. it.1 (same_map xs ∙ e)))
