-- What is seen of obligations one after the other, none of which has a cycle.
use Rattle.std.specs.Prelude.{◌≡◌, ℕ, ◌<◌, ◌≤◌, ◌⊎◌, max}
use Rattle.lv_system.specs.declared.parts.Parts.{Parts}
use Rattle.lv_prove.specs.declared.fragments.Seen.{Seen}
use Rattle.lv_prove.specs.declared.fragments.Seen.TheVariants as N
use Rattle.lv_prove.specs.Outcomes.{AreSmallBefore, AreStratifiedBefore, IsLargeAt, IsSizeAt}

-- the size of one of the first n obligations, or 0, and no size of them is greater
pub record IsLargestBefore (p : Parts) (n largest : ℕ) : Type 0 where
  pub reached : (largest ≡ 0) ⊎ ((i : ℕ) × (i < n) × IsSizeAt p i largest)
  pub greatest : (i : ℕ) → i < n → (size : ℕ) × IsSizeAt p i size × (size ≤ largest)

-- all are within the limit so far, with this greatest size, or the one with this number is the first above it
abbrev pub IsSeen : Parts → ℕ → Seen → Type 0
IsSeen p n (N.AllSmall largest) = AreSmallBefore p n × IsLargestBefore p n largest
IsSeen p n (N.Large first) = (first < n) × AreSmallBefore p first × IsLargeAt p first

abbrev pub and_size : Seen → ℕ → Seen
and_size (N.AllSmall largest) size = N.AllSmall (max largest size)
and_size (N.Large first) size = N.Large first

abbrev pub and_large : Seen → ℕ → Seen
and_large (N.AllSmall largest) n = N.Large n
and_large (N.Large first) n = N.Large first

pub record IsSeenBefore (p : Parts) (n : ℕ) (seen : Seen) : Type 0 where
  pub stratified : AreStratifiedBefore p n
  pub seen_so : IsSeen p n seen
