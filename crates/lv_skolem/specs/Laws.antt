-- What holds of universes and sizes.
use Rattle.std.specs.Prelude.{◌≡◌, ◌+◌, ◌<◌, ℕ, List, length, Some, slice_get}
use Rattle.lv_formula.specs.declared.symbols.SortId.{SortId}
use Rattle.lv_places.specs.declared.skolem.Place.{Place}
use Rattle.lv_places.specs.declared.skolem.Skolem.{Skolem}
use Rattle.lv_places.specs.declared.terms.GroundTerm.{GroundTerm}
use Rattle.lv_places.specs.Universes.{argument_sorts, counts, IsUniverse}
use Rattle.lv_places.specs.Sizes.{IsCount, size_of}
use Rattle.lv_places.specs.GroundForms.{trees_nodes}
use Rattle.lv_places.specs.Grounds.{trees_of}
use Rattle.lv_places.specs.Equality.{equality_clauses}
use Rattle.lv_places.specs.SortGraphs.{IsRank, SortsBelow}

-- the numbers of a universe's terms solve the equation, and the size by them counts what is made
abbrev pub SizesAreLengths : Type 0
SizesAreLengths = (sk : Skolem) (u : List (List GroundTerm)) → IsUniverse sk u
    → IsCount sk (counts u) × (trees_nodes (trees_of sk u) + length (equality_clauses sk (counts u)) ≡ size_of sk (counts u))

-- with no cycle there is one way to count the terms of the sorts
abbrev pub CountsAreUnique : Type 0
CountsAreUnique = (sk : Skolem) (rank : SortId → ℕ) → IsRank sk.places rank
    → ((k : ℕ) (p : Place) → slice_get sk.places k ≡ Some p → SortsBelow sk.sorts (argument_sorts p))
    → (n m : SortId → ℕ) → IsCount sk n → IsCount sk m → (s : SortId) → s.0 < sk.sorts → n s ≡ m s
