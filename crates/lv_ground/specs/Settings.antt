-- What is looked up for the instances of sentences.
use Rattle.std.specs.Prelude.{◌≡◌, ℕ, suc, ◌+◌, ◌<◌, ◌≤◌, ◌^◌, List, length, take, get_or, slice_get, Some}
use Rattle.lv_formula.specs.declared.symbols.SortId.{SortId}
use Rattle.lv_formula.specs.declared.vocabulary.RelShape.{RelShape}
use Rattle.lv_formula.specs.Vocabulary.{relation_in}
use Rattle.lv_places.specs.declared.skolem.Place.{Place}
use Rattle.lv_places.specs.declared.skolem.Skolem.{Skolem}
use Rattle.lv_places.specs.Universes.{argument_sorts, constant_terms, count_at, place_count, product}
use Rattle.lv_places.specs.GroundForms.{Naming, naming_of}
use Rattle.lv_places.proofs.Universes.{PlacesAreTerms, ConstantsAreTerms}
use Rattle.lv_ground.specs.declared.setting.Setting.{Setting}
use Rattle.lv_ground.specs.Positions.{relation_rows, rows_to}

-- so many terms of each sort
pub record AreUsed (sk : Skolem) (n : SortId → ℕ) (used : List ℕ) : Type 0 where
  pub len : length used ≡ sk.sorts
  pub each : (s : SortId) → s.0 < sk.sorts → count_at used s ≡ n s

-- how many terms of its sort come before those of the place k
abbrev pub first_term : Skolem → (SortId → ℕ) → ℕ → SortId → ℕ
first_term sk n k s = length (constant_terms s sk.constants) + place_count n s (take k sk.places)

-- the numbers of the first terms of the first places
pub record AreFirsts (sk : Skolem) (n : SortId → ℕ) (count : ℕ) (firsts : List ℕ) : Type 0 where
  pub len : length firsts ≡ count
  pub each : (k : ℕ) (p : Place) → k < count → slice_get sk.places k ≡ Some p → get_or firsts k 0 ≡ first_term sk n k p.sort
  pub room : (k : ℕ) (p : Place) → k < count → slice_get sk.places k ≡ Some p → get_or firsts k 0 + product n (argument_sorts p) < 2 ^ 32

pub record AreRelationStarts (sk : Skolem) (n : SortId → ℕ) (count : ℕ) (starts : List ℕ) : Type 0 where
  pub len : length starts ≡ suc count
  pub each : (j : ℕ) → j ≤ count → get_or starts j 0 ≡ relation_rows n (take j sk.relations)

pub record AreSortStarts (sk : Skolem) (n : SortId → ℕ) (count : ℕ) (starts : List ℕ) : Type 0 where
  pub len : length starts ≡ suc count
  pub each : (i : ℕ) → i ≤ count → get_or starts i 0 ≡ rows_to sk n i

-- where no two relations have one name
abbrev pub AreKnown : List RelShape → Type 0
AreKnown rs = (j : ℕ) (x : RelShape) → slice_get rs j ≡ Some x → relation_in rs x.sym ≡ Some x.sorts

-- the numbers of terms
abbrev pub numbers : Setting → SortId → ℕ
numbers st = count_at st.counts.items

abbrev pub naming : Setting → Naming
naming st = naming_of st.sk.now (numbers st)

pub record IsReady (st : Setting) : Type 0 where
  pub len : length st.counts.items ≡ st.sk.now.sorts
  pub few : length st.sk.now.places < 2 ^ 32
  pub known : AreKnown st.sk.now.relations
  pub inhabited : (s : SortId) → s.0 < st.sk.now.sorts → 0 < numbers st s
  pub places : PlacesAreTerms (naming st) st.sk.now.places
  pub constants : ConstantsAreTerms (naming st) st.sk.now.constants
  pub firsts : AreFirsts st.sk.now (numbers st) (length st.sk.now.places) st.firsts.items
  pub relations : AreRelationStarts st.sk.now (numbers st) (length st.sk.now.relations) st.relations.items
  pub sorts : AreSortStarts st.sk.now (numbers st) st.sk.now.sorts st.sorts.items
