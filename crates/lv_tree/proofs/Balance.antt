-- Tokens that are one tree, or go on one.
use Rattle.std.proofs.Common.{ℕ, Bool, true, ◌&&◌, ltb, List, [], ◌∷◌, length}
use Rattle.std.specs.Prelude.{not}
use Rattle.lv_tree.specs.Spelling.{Token, Opens, Closes, Spells, is_text}
use Rattle.lv_tree.specs.Faults.{is_empty, tail}

-- With the lists of these places open, and a tree begun or not, the tokens go on to the tree's end:
-- brackets are in pairs, lists at most 64 deep, words within their limits, and nothing follows.
abbrev pub is_balanced : List ℕ → Bool → List Token → Bool
is_balanced o g [] = is_empty o && g
is_balanced o g (Opens at ∷ ts) = not (is_empty o && g) && (ltb (length o) 64 && is_balanced (at ∷ o) true ts)
is_balanced o g (Closes at ∷ ts) = not (is_empty o) && is_balanced (tail o) g ts
is_balanced o g (Spells at text ∷ ts) = not (is_empty o && g) && (is_text text && is_balanced o true ts)
