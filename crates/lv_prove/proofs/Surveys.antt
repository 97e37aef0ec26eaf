-- What is seen of obligations one after the other.
use Rattle.std.proofs.Common.{◌≡◌, ℕ, ◌+◌, ◌<◌, ◌≤◌, max, inl, inr, List, refl, sym, subst, ◌∙◌, arith, below_more, ⊎_elim}
use Rattle.std.proofs.lemmas.Bool.{cases_lt}
use Rattle.std.proofs.Math.Nat.{le-max_left, le-max_right, max-eq_left, max-eq_right}
use Rattle.lv_formula.specs.declared.symbols.SortId.{SortId}
use Rattle.lv_system.specs.declared.parts.Parts.{Parts}
use Rattle.lv_decide.specs.declared.measuring.Fragment.TheVariants as F
use Rattle.lv_decide.specs.Fragments.{IsFragment}
use Rattle.lv_oblig.proofs.Counting.{number_is}
use Rattle.lv_prove.specs.declared.fragments.Seen.{Seen}
use Rattle.lv_prove.specs.declared.fragments.Seen.TheVariants as N
use Rattle.lv_prove.specs.declared.fragments.Surveyed.TheVariants as S
use Rattle.lv_prove.specs.Outcomes.{IsLargestSize, IsSizeAt, IsSmallAt, IsStratifiedAt, IsSurveyed, count, sentences_at, vocabulary_at}
use Rattle.lv_prove.specs.Surveying.{IsLargestBefore, IsSeen, IsSeenBefore, and_large, and_size}

pub seen_none : (p : Parts) → IsSeenBefore p 0 (N.AllSmall 0)
seen_none p = record {
  stratified = λ i l. absurd (omega (arith, l));
  seen_so = (λ i l. absurd (omega (arith, l)), record { reached = inl refl; greatest = λ i l. absurd (omega (arith, l)) });
}

-- the greatest size, with that of one more obligation
larger : (p : Parts) (n largest size : ℕ) → IsLargestBefore p n largest → IsSizeAt p n size → IsLargestBefore p (n + 1) (max largest size)
larger p n largest size before here = record {
  reached = ⊎_elim
      (λ l. let e : max largest size ≡ size = max-eq_right (omega (arith, l)) in
      inr (n, omega arith, subst (IsSizeAt p n) (sym e) here))
      (λ l. let e : max largest size ≡ largest = max-eq_left l in
      ⊎_elim
      (λ none. inl (e ∙ none))
      (λ at. inr (at.0, omega (arith, at.1), subst (IsSizeAt p at.0) (sym e) at.2))
      before.reached)
      (cases_lt largest size);
  greatest = below_more (λ i. (s : ℕ) × IsSizeAt p i s × (s ≤ max largest size)) n
      (λ i l. let s = before.greatest i l in (s.0, s.1, (let most = le-max_left largest size in omega (arith, s.2, most))))
      (size, here, le-max_right largest size);
}

-- one more obligation within the limit
pub seen_size : (p : Parts) (n size : ℕ) (seen : Seen) → IsSeenBefore p n seen → IsFragment (vocabulary_at p n) (sentences_at p n) (F.Size size) → IsSeenBefore p (n + 1) (and_size seen size)
seen_size p n size seen before here = record { stratified = below_more (IsStratifiedAt p) n before.stratified here.0; seen_so = go seen before.seen_so }
  where
    go : (seen : Seen) → IsSeen p n seen → IsSeen p (n + 1) (and_size seen size)
    go (N.AllSmall largest) h = (below_more (IsSmallAt p) n h.0 (size, here.1, here.2), larger p n largest size h.1 here.1)
    go (N.Large first) h = (omega (arith, h.0), h.1, h.2)

-- one more obligation above the limit
pub seen_large : (p : Parts) (n : ℕ) (seen : Seen) → IsSeenBefore p n seen → IsFragment (vocabulary_at p n) (sentences_at p n) F.TooLarge → IsSeenBefore p (n + 1) (and_large seen n)
seen_large p n seen before here = record { stratified = below_more (IsStratifiedAt p) n before.stratified here.0; seen_so = go seen before.seen_so }
  where
    go : (seen : Seen) → IsSeen p n seen → IsSeen p (n + 1) (and_large seen n)
    go (N.AllSmall largest) h = (omega arith, h.0, here.1)
    go (N.Large first) h = (omega (arith, h.0), h.1, h.2)

-- the greatest size of all obligations, of which there is one at least
largest_of_all : (p : Parts) (largest : ℕ) → IsLargestBefore p (count p) largest → IsLargestSize p largest
largest_of_all p largest h = record { reached = ⊎_elim first (λ at. at) h.reached; greatest = h.greatest }
  where
    some : 0 < count p
    some = let e = number_is p in omega (arith, e)

    first : largest ≡ 0 → (i : ℕ) × (i < count p) × IsSizeAt p i largest
    first none = let s = h.greatest 0 some in
        let e : s.0 ≡ largest = omega (arith, s.2, none) in
        (0, some, subst (IsSizeAt p 0) e s.1)

-- all obligations are within the limit
pub surveyed_small : (p : Parts) (n largest : ℕ) → n ≡ count p → IsSeenBefore p n (N.AllSmall largest) → IsSurveyed p (S.Fits largest)
surveyed_small p n largest is seen = let all : IsSeenBefore p (count p) (N.AllSmall largest) = subst (λ k. IsSeenBefore p k (N.AllSmall largest)) is seen in
    (record { stratified = all.stratified; small = all.seen_so.0 }, largest_of_all p largest all.seen_so.1)

-- one is above it
pub surveyed_large : (p : Parts) (n first : ℕ) → n ≡ count p → IsSeenBefore p n (N.Large first) → IsSurveyed p (S.TooLarge first)
surveyed_large p n first is seen = let all : IsSeenBefore p (count p) (N.Large first) = subst (λ k. IsSeenBefore p k (N.Large first)) is seen in
    record { in_range = all.seen_so.0; stratified = all.stratified; earlier = all.seen_so.1; large = all.seen_so.2 }

-- one has a cycle
pub surveyed_cycle : (p : Parts) (n : ℕ) (seen : Seen) (sorts : List SortId) → n < count p → IsSeenBefore p n seen → IsFragment (vocabulary_at p n) (sentences_at p n) (F.Cycle sorts) → IsSurveyed p (S.NotStratified n sorts)
surveyed_cycle p n seen sorts l before here = record { in_range = l; earlier = before.stratified; cycle = here }
