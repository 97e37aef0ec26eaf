-- The sort graph: which sorts the terms of a sort are made from.
use Rattle.std.specs.Prelude.{◌≡◌, ◌≢◌, ◌<◌, ℕ, List, [], ◌∷◌, AllPairs, Option, Some, None, slice_get}
use Rattle.lv_formula.specs.declared.symbols.SortId.{SortId}
use Rattle.lv_places.specs.declared.skolem.Place.{Place}
use Rattle.lv_places.specs.Universes.{argument_sorts}

-- an edge leads from the sort of each argument of a place to the place's sort
pub record IsEdge (places : List Place) (s t : SortId) : Type 0 where
  pub number : ℕ
  pub place : Place
  pub there : slice_get places number ≡ Some place
  pub position : ℕ
  pub argument : slice_get (argument_sorts place) position ≡ Some s
  pub result : place.sort ≡ t

-- edges lead from s through the list and on to the end
abbrev pub Leads : List Place → SortId → List SortId → SortId → Type 0
Leads places s [] end = IsEdge places s end
Leads places s (t ∷ ts) end = IsEdge places s t × Leads places t ts end

-- distinct sorts, with an edge from each to the next and one from the last to the first
abbrev pub IsCycle : List Place → List SortId → Type 0
IsCycle places [] = ⊥
IsCycle places (s ∷ ss) = AllPairs (λ a b. a ≢ b) (s ∷ ss) × Leads places s ss s

abbrev pub HasCycle : List Place → Type 0
HasCycle places = (l : List SortId) × IsCycle places l

-- the rank of each of these sorts is lower
abbrev pub RanksBelow : (SortId → ℕ) → ℕ → List SortId → Type 0
RanksBelow rank n [] = Unit {0}
RanksBelow rank n (s ∷ ss) = (rank s < n) × RanksBelow rank n ss

-- each edge leads to a sort of higher rank: then there is no cycle
abbrev pub IsRank : List Place → (SortId → ℕ) → Type 0
IsRank places rank = (k : ℕ) (p : Place) → slice_get places k ≡ Some p → RanksBelow rank (rank p.sort) (argument_sorts p)

-- no cycle, as a rank shows, or this one
abbrev pub CycleIs : List Place → Option (List SortId) → Type 0
CycleIs places None = (rank : SortId → ℕ) × IsRank places rank
CycleIs places (Some l) = IsCycle places l

-- a cycle exactly where there is one
abbrev pub TellsCycle : List Place → Option (List SortId) → Type 0
TellsCycle places None = HasCycle places → ⊥
TellsCycle places (Some l) = IsCycle places l

-- the sorts are those of the vocabulary
abbrev pub SortsBelow : ℕ → List SortId → Type 0
SortsBelow n [] = Unit {0}
SortsBelow n (s ∷ ss) = (s.0 < n) × SortsBelow n ss
