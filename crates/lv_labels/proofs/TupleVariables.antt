-- The variables of a tuple, read with its elements for values.
use Rattle.std.proofs.Common.{◌≡◌, ℕ, suc, ◌-◌, ◌<◌, List, [], ◌∷◌, length, get_or, reverse, refl, ap, ap₂, ◌∙◌, arith}
use Rattle.std.proofs.lemmas.List.{get_or-reverse}
use Rattle.lv_formula.specs.Meaning.{Meaning}
use Rattle.lv_formula.specs.Truth.{values_of}
use Rattle.lv_labels.specs.Problem.{tuple_variables}

vars_read : (m : Meaning) (e xs : List ℕ) → ((k : ℕ) → k < length xs → get_or e k 0 ≡ get_or xs (length xs - 1 - k) 0) → values_of m e (tuple_variables (length xs)) ≡ xs
vars_read m e [] h = refl
vars_read m e (x ∷ xs) h = ap₂ (λ y ys. y ∷ ys) (h (length xs) (omega arith) ∙ ap (λ k. get_or (x ∷ xs) k 0) first) (vars_read m e xs (λ k l. h k (omega arith) ∙ ap (λ j. get_or (x ∷ xs) j 0) (later k l)))
  where
    first : suc (length xs) - 1 - length xs ≡ 0
    first = omega arith

    later : (k : ℕ) → k < length xs → suc (length xs) - 1 - k ≡ suc (length xs - 1 - k)
    later k l = omega arith

-- the variables of a tuple have its elements for values
pub tuple_read : (m : Meaning) (n : ℕ) (tuple : List ℕ) → length tuple ≡ n → values_of m (reverse tuple) (tuple_variables n) ≡ tuple
tuple_read m n tuple e = rw (← e) (vars_read m (reverse tuple) tuple (λ k l. get_or-reverse tuple k 0 l))
