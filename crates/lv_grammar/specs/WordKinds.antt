-- What a word is by its bytes alone.
use Rattle.std.specs.Prelude.{ℕ, Bool, false, ◌&&◌, ◌||◌, eqb, List, [], ◌∷◌, codes, Option, Some, None, if◌then◌else◌}
use Rattle.lv_system.specs.Names.{same_text, is_reserved, are_name_bytes, begins_small}
use Rattle.lv_grammar.specs.Words.{begins_capital}
use Rattle.lv_grammar.specs.declared.reading.Keyword.{Keyword}
use Rattle.lv_grammar.specs.declared.reading.Keyword.TheVariants as K
use Rattle.lv_grammar.specs.declared.reading.Family.{Family}
use Rattle.lv_grammar.specs.declared.reading.Family.TheVariants as Fam

-- the words `true` and `false`, and those that the list of a formula may begin with
unfoldable pub constant_keyword : List ℕ → Option Keyword
constant_keyword text =
    if same_text text (codes "true") then Some K.True
    else if same_text text (codes "false") then Some K.False
    else if same_text text (codes "=") then Some K.Equals
    else if same_text text (codes "always") then Some K.Always
    else if same_text text (codes "eventually") then Some K.Eventually
    else None

unfoldable pub connective_keyword : List ℕ → Option Keyword
connective_keyword text =
    if same_text text (codes "not") then Some K.Not
    else if same_text text (codes "and") then Some K.And
    else if same_text text (codes "or") then Some K.Or
    else if same_text text (codes "implies") then Some K.Implies
    else if same_text text (codes "iff") then Some K.Iff
    else if same_text text (codes "all") then Some K.All
    else if same_text text (codes "some") then Some K.Some
    else None

abbrev pub or_else : {A : Type 0} → Option A → Option A → Option A
or_else None next = next
or_else (Some x) next = Some x

-- the keyword of formulas that the bytes are
abbrev pub keyword_of : List ℕ → Option Keyword
keyword_of text = or_else (constant_keyword text) (connective_keyword text)

abbrev pub has_dot : List ℕ → Bool
has_dot [] = false
has_dot (b ∷ bs) = eqb b 46 || has_dot bs

-- the kind of a word, whatever its length
unfoldable pub family_of : List ℕ → Family
family_of text =
    if has_dot text then Fam.Dotted
    else if same_text text (codes "frozen") then Fam.Frozen
    else if same_text text (codes "saved") then Fam.Saved
    else if is_reserved text then Fam.Other
    else if begins_small text && are_name_bytes text then Fam.Name
    else if begins_capital text && are_name_bytes text then Fam.Variable
    else Fam.Other

-- what follows these bytes, where the text begins with them
abbrev pub behind : List ℕ → List ℕ → Option (List ℕ)
behind [] text = Some text
behind (a ∷ as') [] = None
behind (a ∷ as') (b ∷ bs) = if eqb a b then behind as' bs else None
