-- What a call takes from the bytes that a source has left, and adds to those that a sink holds.
-- An end that doesn't tell its bytes, `None`, tells none afterwards either.
use Rattle.std.specs.Prelude.{◌≡◌, ℕ, ◌<◌, ◌≤◌, List, ◌++◌, length, take, Option}
use Rattle.std.specs.Option.{option_map}

-- these bytes, and then those that are told
abbrev pub before_told : List ℕ → Option (List ℕ) → Option (List ℕ)
before_told bytes told = option_map (λ rest. bytes ++ rest) told

-- those that are told, and then these bytes
abbrev pub after_told : Option (List ℕ) → List ℕ → Option (List ℕ)
after_told told bytes = option_map (λ front. front ++ bytes) told

-- what a source had left began with these bytes, and it lost exactly them
abbrev pub Loses : Option (List ℕ) → Option (List ℕ) → List ℕ → Type 0
Loses before now bytes = before ≡ before_told bytes now

-- what a sink holds grew by exactly these bytes
abbrev pub Grows : Option (List ℕ) → Option (List ℕ) → List ℕ → Type 0
Grows before now bytes = now ≡ after_told before bytes

-- some bytes were read, at most so many, and the source lost exactly them
pub record LosesAtMost (most : ℕ) (before now : Option (List ℕ)) : Type 0 where
  pub bytes : List ℕ
  pub few : length bytes ≤ most
  pub lost : Loses before now bytes

-- some of the first of these bytes were written, but not all of them
pub record GrowsByPart (before now : Option (List ℕ)) (bytes : List ℕ) : Type 0 where
  pub count : ℕ
  pub part : count < length bytes
  pub grown : Grows before now (take count bytes)
