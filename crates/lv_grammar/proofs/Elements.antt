-- The element of a list at a number, and none past its end.
use Rattle.std.proofs.Common.{◌≡◌, ℕ, zero, suc, ◌<◌, ◌≤◌, List, [], ◌∷◌, map, length, get_or, slice_get, Some, None, refl, sym, ap, ◌∙◌, arith}
use Rattle.std.proofs.lemmas.List.{get_or-map}
use Rattle.std.proofs.lemmas.Option.{slice_get_read, slice_get_past}

pub name_there : {X : Type 0} (text : X → List ℕ) (xs : List X) (i : ℕ) (x : X) → i < length xs → x ≡ get_or xs i x → get_or (map text xs) i [] ≡ text x
name_there text xs i x lt e = get_or-map text xs i x [] lt ∙ ap text (sym e)

pub name_past : {X : Type 0} (text : X → List ℕ) (xs : List X) (i : ℕ) → length xs ≤ i → get_or (map text xs) i [] ≡ []
name_past text [] i le = refl
name_past text (x ∷ xs) zero le = absurd (omega (arith, le))
name_past text (x ∷ xs) (suc i) le = name_past text xs i (omega (arith, le))

pub element_there : {X : Type 0} (xs : List X) (i : ℕ) (x : X) → i < length xs → x ≡ get_or xs i x → slice_get xs i ≡ Some x
element_there xs i x lt e = slice_get_read xs (length xs) i x refl lt e

pub element_past : {X : Type 0} (xs : List X) (i : ℕ) → length xs ≤ i → slice_get xs i ≡ None
element_past xs i le = slice_get_past xs i le
