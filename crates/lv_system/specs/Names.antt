-- Names: their form, and that no two of a system are the same.
use Rattle.std.specs.Prelude.{ℕ, ◌+◌, Bool, true, false, ◌||◌, ◌&&◌, not, leb, eqb, cond, List, [], ◌∷◌, ◌++◌, length, map, codes}
use Rattle.lv_system.specs.declared.parts.Parts.{Parts}

abbrev pub same_text : List ℕ → List ℕ → Bool
same_text [] [] = true
same_text [] (b ∷ bs) = false
same_text (a ∷ as') [] = false
same_text (a ∷ as') (b ∷ bs) = eqb a b && same_text as' bs

-- the reserved words, in five groups
unfoldable pub names_item : List ℕ → Bool
names_item text =
    same_text text (codes "sort") || same_text text (codes "relation") || same_text text (codes "constant") || same_text text (codes "function")
    || same_text text (codes "axiom") || same_text text (codes "init") || same_text text (codes "action") || same_text text (codes "fair")

unfoldable pub names_part : List ℕ → Bool
names_part text =
    same_text text (codes "system") || same_text text (codes "label") || same_text text (codes "witness") || same_text text (codes "property")
    || same_text text (codes "invariant") || same_text text (codes "finite") || same_text text (codes "fixed") || same_text text (codes "guard")

unfoldable pub names_connective : List ℕ → Bool
names_connective text =
    same_text text (codes "true") || same_text text (codes "false") || same_text text (codes "not") || same_text text (codes "and")
    || same_text text (codes "or") || same_text text (codes "implies") || same_text text (codes "iff") || same_text text (codes "set")

unfoldable pub names_operator : List ℕ → Bool
names_operator text =
    same_text text (codes "all") || same_text text (codes "some") || same_text text (codes "always") || same_text text (codes "eventually")
    || same_text text (codes "next") || same_text text (codes "until") || same_text text (codes "frozen") || same_text text (codes "saved")

unfoldable pub names_run : List ℕ → Bool
names_run text =
    same_text text (codes "structure") || same_text text (codes "size") || same_text text (codes "lasso") || same_text text (codes "stem")
    || same_text text (codes "loop") || same_text text (codes "check") || same_text text (codes "replay")

abbrev pub is_reserved : List ℕ → Bool
is_reserved text = names_item text || names_part text || names_connective text || names_operator text || names_run text

abbrev pub is_in : ℕ → ℕ → ℕ → Bool
is_in low high b = leb low b && leb b high

-- letters, digits, '_' and '-'
abbrev pub is_name_byte : ℕ → Bool
is_name_byte b = is_in 97 122 b || is_in 65 90 b || is_in 48 57 b || eqb b 95 || eqb b 45

abbrev pub are_name_bytes : List ℕ → Bool
are_name_bytes [] = true
are_name_bytes (b ∷ bs) = is_name_byte b && are_name_bytes bs

abbrev pub begins_small : List ℕ → Bool
begins_small [] = false
begins_small (b ∷ bs) = is_in 97 122 b

-- a small letter, then letters, digits, '_' and '-', at most 48 bytes in all, and no reserved word
abbrev pub is_name : List ℕ → Bool
is_name text = begins_small text && are_name_bytes text && leb (length text) 48 && not (is_reserved text)

abbrev pub are_names : List (List ℕ) → Bool
are_names [] = true
are_names (text ∷ texts) = is_name text && are_names texts

-- how often the name stands in the list
abbrev pub occurrences : List ℕ → List (List ℕ) → ℕ
occurrences name [] = 0
occurrences name (text ∷ texts) = cond (same_text text name) 1 0 + occurrences name texts

-- each of the first names stands once in the list
abbrev pub each_stands_once : List (List ℕ) → List (List ℕ) → Bool
each_stands_once [] all = true
each_stands_once (name ∷ names) all = eqb (occurrences name all) 1 && each_stands_once names all

-- the names of a system, its own first
unfoldable pub names_of : Parts → List (List ℕ)
names_of p =
    p.name ∷ (map (λ s. s.name) p.sorts ++ (map (λ s. s.name) p.symbols ++ (map (λ a. a.name) p.actions ++ (map (λ c. c.name) p.fairs
    ++ (map (λ l. l.name) p.labels ++ (map (λ w. w.name) p.witnesses ++ map (λ i. i.name) p.invariants))))))

-- each name has the form of one, and no two are the same
abbrev pub names_fit : Parts → Bool
names_fit p = are_names (names_of p) && each_stands_once (names_of p) (names_of p)
