-- Lists in which each item counts once.
use Rattle.std.specs.Prelude.{ℕ, suc, Bool, false, ◌||◌, cond, List, [], ◌∷◌, ◌++◌}

abbrev pub is_among : {X : Type 0} → (X → X → Bool) → X → List X → Bool
is_among same x [] = false
is_among same x (y ∷ ys) = same x y || is_among same x ys

-- the items that are known, and behind them the others, each once, at its first place
abbrev pub once_behind : {X : Type 0} → (X → X → Bool) → List X → List X → List X
once_behind same known [] = known
once_behind same known (x ∷ xs) = once_behind same (cond (is_among same x known) known (known ++ x ∷ [])) xs

-- each item once, at its first place
abbrev pub each_once : {X : Type 0} → (X → X → Bool) → List X → List X
each_once same xs = once_behind same [] xs

-- the place of an item, the list's length where it isn't there
abbrev pub place_of : {X : Type 0} → (X → X → Bool) → X → List X → ℕ
place_of same x [] = 0
place_of same x (y ∷ ys) = cond (same x y) 0 (suc (place_of same x ys))
