-- Places of items in lists, and the numbering of variables by their places.
use Rattle.std.proofs.Common.{◌≡◌, ℕ, suc, ◌+◌, ◌-◌, ◌≤◌, ◌<◌, eqb, cond, Bool, true, false, ◌||◌, List, [], ◌∷◌, length, refl, ap, arith}
use Rattle.lv_labels.specs.Once.{is_among, place_of}
use Rattle.lv_labels.specs.Renaming.{renumbered}

within_head : (b : Bool) (place len : ℕ) → place ≤ len → cond b 0 (suc place) ≤ suc len
within_head true place len l = omega arith
within_head false place len l = omega (arith, l)

-- the place of an item is at most the list's length
pub place_within : {X : Type 0} (same : X → X → Bool) (x : X) (xs : List X) → place_of same x xs ≤ length xs
place_within same x [] = omega arith
place_within same x (y ∷ ys) = within_head (same x y) (place_of same x ys) (length ys) (place_within same x ys)

known_head : (b known : Bool) (place len : ℕ) → (place < len → known ≡ true) → cond b 0 (suc place) < suc len → (b || known) ≡ true
known_head true known place len h l = refl
known_head false known place len h l = h (omega (arith, l))

-- an item with a place below the list's length is among the list's items
pub place_known : {X : Type 0} (same : X → X → Bool) (x : X) (xs : List X) → place_of same x xs < length xs → is_among same x xs ≡ true
place_known same x [] l = absurd (omega (arith, l))
place_known same x (y ∷ ys) l = known_head (same x y) (is_among same x ys) (place_of same x ys) (length ys) (place_known same x ys) l

unknown_head : (b known : Bool) (place len : ℕ) → (len ≤ place → known ≡ false) → suc len ≤ cond b 0 (suc place) → (b || known) ≡ false
unknown_head true known place len h l = absurd (omega (arith, l))
unknown_head false known place len h l = h (omega (arith, l))

-- an item with no place below the list's length is not
pub place_unknown : {X : Type 0} (same : X → X → Bool) (x : X) (xs : List X) → length xs ≤ place_of same x xs → is_among same x xs ≡ false
place_unknown same x [] l = refl
place_unknown same x (y ∷ ys) l = unknown_head (same x y) (is_among same x ys) (place_of same x ys) (length ys) (place_unknown same x ys) l

-- a listed variable is numbered from the last one
pub renumbered_known : (vs : List ℕ) (v : ℕ) → place_of eqb v vs < length vs → renumbered vs v ≡ length vs - suc (place_of eqb v vs)
renumbered_known vs v l = ap (λ b. cond b (length vs - suc (place_of eqb v vs)) (length vs + v)) (place_known eqb v vs l)

-- the others go above
pub renumbered_unknown : (vs : List ℕ) (v : ℕ) → length vs ≤ place_of eqb v vs → renumbered vs v ≡ length vs + v
renumbered_unknown vs v l = ap (λ b. cond b (length vs - suc (place_of eqb v vs)) (length vs + v)) (place_unknown eqb v vs l)
