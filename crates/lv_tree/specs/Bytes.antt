-- The bytes of a text.
use Rattle.std.specs.Prelude.{ℕ, Bool, true, ◌&&◌, ◌||◌, nat_le, ◌==◌, List, [], ◌∷◌}

-- a byte of this range, both ends counted
abbrev pub is_in : ℕ → ℕ → ℕ → Bool
is_in low high b = nat_le low b && nat_le b high

-- a space, tab, newline or carriage return
abbrev pub is_white : ℕ → Bool
is_white b = b == 32 || b == 9 || b == 10 || b == 13

-- a letter, a digit, '_', '-', '.' or '='
abbrev pub is_word_byte : ℕ → Bool
is_word_byte b = is_in 97 122 b || is_in 65 90 b || is_in 48 57 b || b == 95 || b == 45 || b == 46 || b == 61

-- a byte that may stand outside a comment: one of those, '(', ')' or ';'
abbrev pub is_allowed_byte : ℕ → Bool
is_allowed_byte b = is_white b || is_word_byte b || b == 40 || b == 41 || b == 59

-- the bytes end here, or go on with such a byte
abbrev pub goes_on_with : (ℕ → Bool) → List ℕ → Bool
goes_on_with p [] = true
goes_on_with p (b ∷ bs) = p b
