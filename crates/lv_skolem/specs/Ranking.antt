-- Sorts are ranked one after the other: one to which edges lead from ranked sorts alone comes next.
use Rattle.std.specs.Prelude.{◌≡◌, ℕ, zero, suc, ◌<◌, ◌⊎◌, cond, eqb, List, [], ◌∷◌, length, Option, Some, None}
use Rattle.lv_formula.specs.declared.symbols.SortId.{SortId}
use Rattle.lv_places.specs.declared.skolem.Place.{Place}
use Rattle.lv_places.specs.Universes.{argument_sorts, count_at}
use Rattle.lv_places.specs.SortGraphs.{SortsBelow}

-- one of the sorts
abbrev pub IsAmong : SortId → List SortId → Type 0
IsAmong a [] = ⊥
IsAmong a (s ∷ ss) = (s ≡ a) ⊎ IsAmong a ss

-- each of the sorts has a rank; 0 is none
abbrev pub AreRanked : List ℕ → List SortId → Type 0
AreRanked ranks [] = Unit {0}
AreRanked ranks (s ∷ ss) = (0 < count_at ranks s) × AreRanked ranks ss

-- an argument without a rank, if there is one
abbrev pub FirstIs : List ℕ → List SortId → Option SortId → Type 0
FirstIs ranks ss None = AreRanked ranks ss
FirstIs ranks ss (Some a) = IsAmong a ss × (count_at ranks a ≡ 0)

-- the arguments of all places of the sort have a rank
abbrev pub IsFree : List ℕ → List Place → SortId → Type 0
IsFree ranks [] s = Unit {0}
IsFree ranks (p ∷ ps) s = (p.sort.0 ≡ s.0 → AreRanked ranks (argument_sorts p)) × IsFree ranks ps s

-- some place of the sort has the argument
abbrev pub LeadsTo : List Place → SortId → SortId → Type 0
LeadsTo [] a s = ⊥
LeadsTo (p ∷ ps) a s = ((p.sort.0 ≡ s.0) × IsAmong a (argument_sorts p)) ⊎ LeadsTo ps a s

abbrev pub LeftIs : List ℕ → List Place → SortId → Option SortId → Type 0
LeftIs ranks places s None = IsFree ranks places s
LeftIs ranks places s (Some a) = LeadsTo places a s × (count_at ranks a ≡ 0)

-- the next sort to rank, or that to each sort without a rank an edge leads from one without
abbrev pub AreStuck : List ℕ → List Place → ℕ → Type 0
AreStuck ranks places sorts = (s : SortId) → s.0 < sorts → count_at ranks s ≡ 0 → (a : SortId) × LeadsTo places a s × (count_at ranks a ≡ 0)

abbrev pub FreeIs : List ℕ → List Place → ℕ → Option ℕ → Type 0
FreeIs ranks places sorts None = AreStuck ranks places sorts
FreeIs ranks places sorts (Some s) = (s < sorts) × (count_at ranks (record { 0 = s }) ≡ 0) × IsFree ranks places (record { 0 = s })

-- each of the sorts has a rank below k
abbrev pub AreLower : List ℕ → ℕ → List SortId → Type 0
AreLower ranks k [] = Unit {0}
AreLower ranks k (s ∷ ss) = (0 < count_at ranks s) × (count_at ranks s < k) × AreLower ranks k ss

-- edges lead to ranked sorts from sorts of lower rank alone
abbrev pub AreOrdered : List ℕ → List Place → Type 0
AreOrdered ranks [] = Unit {0}
AreOrdered ranks (p ∷ ps) = (0 < count_at ranks p.sort → AreLower ranks (count_at ranks p.sort) (argument_sorts p)) × AreOrdered ranks ps

-- how many sorts have no rank
abbrev pub zeros : List ℕ → ℕ
zeros [] = 0
zeros (zero ∷ ns) = suc (zeros ns)
zeros (suc n ∷ ns) = zeros ns

-- sorts have ranks as far as they can
pub record RanksAre (ranks : List ℕ) (places : List Place) (sorts : ℕ) : Type 0 where
  pub len : length ranks ≡ sorts
  pub ordered : AreOrdered ranks places
  pub stuck : AreStuck ranks places sorts

-- ---- the way back from a sort without a rank

-- the sorts are those of the vocabulary
abbrev pub AreInRange : ℕ → List Place → Type 0
AreInRange sorts [] = Unit {0}
AreInRange sorts (p ∷ ps) = (p.sort.0 < sorts) × SortsBelow sorts (argument_sorts p) × AreInRange sorts ps

abbrev pub UnrankedIs : List ℕ → ℕ → Option SortId → Type 0
UnrankedIs ranks sorts None = (s : SortId) → s.0 < sorts → 0 < count_at ranks s
UnrankedIs ranks sorts (Some s) = (s.0 < sorts) × (count_at ranks s ≡ 0)

-- the sorts up to the first that is this one
abbrev pub until : SortId → List SortId → List SortId
until a [] = []
until a (s ∷ ss) = s ∷ cond (eqb s.0 a.0) [] (until a ss)
