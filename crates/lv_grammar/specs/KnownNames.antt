-- Names that are new one after the other.
use Rattle.std.specs.Prelude.{◌≡◌, ℕ, true, List, [], ◌∷◌, ◌++◌, map}
use Rattle.lv_system.specs.Names.{is_name, occurrences}
use Rattle.lv_grammar.specs.Known.{Entry}

abbrev pub texts : List Entry → List (List ℕ)
texts es = map (λ e. e.0) es

-- each has the form of a name and is none of those before it
abbrev pub AreNew : List (List ℕ) → List (List ℕ) → Type 0
AreNew before [] = Unit {0}
AreNew before (n ∷ ns) = (is_name n ≡ true) × (occurrences n before ≡ 0) × AreNew (before ++ n ∷ []) ns
