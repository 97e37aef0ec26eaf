-- Texts are the same to the test of names exactly where they are equal.
use Rattle.std.proofs.Common.{◌≡◌, ℕ, Bool, true, false, ◌&&◌, eqb, List, [], ◌∷◌, refl, ap₂}
use Rattle.std.proofs.lemmas.Bool.{eqb-true, eq-eqb}
use Rattle.lv_system.specs.Names.{same_text}

pub same_is : (a b : List ℕ) → same_text a b ≡ true → a ≡ b
same_is [] [] e = refl
same_is [] (y ∷ ys) e = absurd cc
same_is (x ∷ xs) [] e = absurd cc
same_is (x ∷ xs) (y ∷ ys) e = go (eqb x y) refl (same_is xs ys) e where
  go : (b : Bool) → eqb x y ≡ b → (same_text xs ys ≡ true → xs ≡ ys) → (b && same_text xs ys) ≡ true → x ∷ xs ≡ y ∷ ys
  go true b rest e = ap₂ (λ z zs. z ∷ zs) (eqb-true x y b) (rest e)
  go false b rest e = absurd cc

pub same_self : (a : List ℕ) → same_text a a ≡ true
same_self [] = refl
same_self (x ∷ xs) = rw (eq-eqb x x refl) (same_self xs)
