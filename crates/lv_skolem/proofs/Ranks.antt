-- Sorts are ranked one after the other.
use Rattle.std.proofs.Common.{◌≡◌, ℕ, zero, suc, ◌+◌, ◌<◌, ◌≤◌, List, [], ◌∷◌, ◌++◌, length, get_or, refl, sym, ap, ◌∙◌, subst, arith, set, add-one, Some, None}
use Rattle.std.proofs.lemmas.Bool.{cases_eq}
use Rattle.std.proofs.lemmas.List.{get_or-set_same, get_or-set_other, length-set}
use Rattle.lv_formula.specs.declared.symbols.SortId.{SortId}
use Rattle.lv_places.specs.declared.skolem.Place.{Place}
use Rattle.lv_places.specs.Universes.{count_at, argument_sorts}
use Rattle.lv_skolem.specs.Ranking.{AreRanked, IsFree, AreLower, AreOrdered, zeros, FreeIs, RanksAre}
use Rattle.lv_places.proofs.Tests.{either}

pub zeros_more : (xs : List ℕ) → zeros (xs ++ 0 ∷ []) ≡ suc (zeros xs)
zeros_more [] = refl
zeros_more (zero ∷ xs) = ap suc (zeros_more xs)
zeros_more (suc x ∷ xs) = zeros_more xs

pub zeros_set : (xs : List ℕ) (i v : ℕ) → i < length xs → get_or xs i 0 ≡ 0 → suc (zeros (set xs i (suc v))) ≡ zeros xs
zeros_set [] i v l e = absurd (omega arith)
zeros_set (zero ∷ xs) zero v l e = refl
zeros_set (suc x ∷ xs) zero v l e = absurd (omega arith)
zeros_set (zero ∷ xs) (suc i) v l e = ap suc (zeros_set xs i v (omega arith) e)
zeros_set (suc x ∷ xs) (suc i) v l e = zeros_set xs i v (omega arith) e

zero_counts : (xs : List ℕ) (i : ℕ) → i < length xs → get_or xs i 0 ≡ 0 → 0 < zeros xs
zero_counts [] i l e = absurd (omega arith)
zero_counts (zero ∷ xs) i l e = omega arith
zero_counts (suc x ∷ xs) zero l e = absurd (omega arith)
zero_counts (suc x ∷ xs) (suc i) l e = zero_counts xs i (omega arith) e

-- ---- a sort is ranked

module _ (ranks : List ℕ) (s : SortId) (round : ℕ) (within : s.0 < length ranks) (unranked : count_at ranks s ≡ 0) (none_later : (t : SortId)
    → count_at ranks t ≤ round) where
  abbrev next : List ℕ
  next = set ranks s.0 (suc round)

  -- a ranked sort keeps its rank
  keeps : (t : SortId) → 0 < count_at ranks t → count_at next t ≡ count_at ranks t
  keeps t l = get_or-set_other ranks s.0 t.0 (suc round) 0 (λ e. let z = ap (λ i. get_or ranks i 0) e in omega arith)

  ranked_now : (t : SortId) → t.0 ≡ s.0 → count_at next t ≡ suc round
  ranked_now t e = ap (λ i. get_or next i 0) e ∙ get_or-set_same ranks s.0 (suc round) 0 within

  lower_kept : (k : ℕ) (ss : List SortId) → AreLower ranks k ss → AreLower next k ss
  lower_kept k [] h = tt
  lower_kept k (t ∷ ts) h = let e = keeps t h.0 in (omega (arith, e, h.0), omega (arith, e, h.1), lower_kept k ts h.2)

  lower_now : (ss : List SortId) → AreRanked ranks ss → AreLower next (suc round) ss
  lower_now [] h = tt
  lower_now (t ∷ ts) h = let e = keeps t h.0 in let b = none_later t in (omega (arith, e, h.0), omega (arith, e, b), lower_now ts h.1)

  pub ordered_next : (ps : List Place) → AreOrdered ranks ps → IsFree ranks ps s → AreOrdered next ps
  ordered_next [] h free = tt
  ordered_next (p ∷ ps) h free = (here, ordered_next ps h.1 free.1)
    where
      here : 0 < count_at next p.sort → AreLower next (count_at next p.sort) (argument_sorts p)
      here l = either (cases_eq p.sort.0 s.0)
          (λ e. subst (λ k. AreLower next k (argument_sorts p)) (sym (ranked_now p.sort e)) (lower_now (argument_sorts p) (free.0 e)))
          (λ ne. let e = get_or-set_other ranks s.0 p.sort.0 (suc round) 0 ne in
          subst (λ k. AreLower next k (argument_sorts p)) (sym e) (lower_kept (count_at ranks p.sort) (argument_sorts p) (h.0 (omega (arith, l, e)))))

  pub none_later_next : (t : SortId) → count_at next t ≤ round + 1
  none_later_next t = either (cases_eq t.0 s.0)
      (λ e. let z = ranked_now t e in omega arith)
      (λ ne. let z = get_or-set_other ranks s.0 t.0 (suc round) 0 ne in let b = none_later t in omega arith)

  pub left_next : (sorts : ℕ) → zeros ranks + round ≡ sorts → zeros next + (round + 1) ≡ sorts
  left_next sorts h = let z = zeros_set ranks s.0 round within unranked in omega arith

few_zeros : (xs : List ℕ) → zeros xs ≤ length xs
few_zeros [] = omega arith
few_zeros (zero ∷ xs) = let r = few_zeros xs in omega arith
few_zeros (suc x ∷ xs) = let r = few_zeros xs in omega arith

pub all_zero : (xs : List ℕ) (i : ℕ) → length xs ≡ zeros xs → get_or xs i 0 ≡ 0
all_zero [] i e = refl
all_zero (zero ∷ xs) zero e = refl
all_zero (zero ∷ xs) (suc i) e = all_zero xs i (omega arith)
all_zero (suc x ∷ xs) i e = absurd (let r = few_zeros xs in omega arith)

ordered_none : (ranks : List ℕ) (ps : List Place) → length ranks ≡ zeros ranks → AreOrdered ranks ps
ordered_none ranks [] e = tt
ordered_none ranks (p ∷ ps) e = ((λ l. let z = all_zero ranks p.sort.0 e in absurd (omega arith)), ordered_none ranks ps e)

-- so many sorts are ranked
pub record AreRankedBy (ranks : List ℕ) (places : List Place) (sorts round : ℕ) : Type 0 where
  pub len : length ranks ≡ sorts
  pub ordered : AreOrdered ranks places
  pub none_later : (s : SortId) → count_at ranks s ≤ round
  pub left : zeros ranks + round ≡ sorts

pub first_round : (ranks : List ℕ) (places : List Place) (sorts : ℕ) → length ranks ≡ sorts → zeros ranks ≡ sorts → AreRankedBy ranks places sorts 0
first_round ranks places sorts len none = let e : length ranks ≡ zeros ranks = len ∙ sym none in record {
  len = len;
  ordered = ordered_none ranks places e;
  none_later = λ s. let z = all_zero ranks s.0 e in omega arith;
  left = omega arith;
}

pub next_round : (ranks : List ℕ) (places : List Place) (sorts round s : ℕ) → AreRankedBy ranks places sorts round → FreeIs ranks places sorts (Some s)
    → AreRankedBy (set ranks s (round + 1)) places sorts (round + 1)
next_round ranks places sorts round s h free =
    let t : SortId = record { 0 = s } in
    let within : s < length ranks = omega (arith, free.0, h.len) in
    subst (λ v. AreRankedBy (set ranks s v) places sorts (round + 1)) (sym (add-one round)) (record {
      len = length-set ranks s (suc round) ∙ h.len;
      ordered = ordered_next ranks t round within free.1 h.none_later places h.ordered free.2;
      none_later = none_later_next ranks t round within free.1 h.none_later;
      left = left_next ranks t round within free.1 h.none_later sorts h.left;
    })

-- where no sort is left, none is stuck
pub last_round : (ranks : List ℕ) (places : List Place) (sorts round : ℕ) → AreRankedBy ranks places sorts round → sorts ≤ round → RanksAre ranks places sorts
last_round ranks places sorts round h l = record {
  len = h.len;
  ordered = h.ordered;
  stuck = λ s k e. let z = zero_counts ranks s.0 (omega (arith, k, h.len)) e in let f = h.left in absurd (omega arith);
}

pub stuck_round : (ranks : List ℕ) (places : List Place) (sorts round : ℕ) → AreRankedBy ranks places sorts round → FreeIs ranks places sorts None
    → RanksAre ranks places sorts
stuck_round ranks places sorts round h stuck = record { len = h.len; ordered = h.ordered; stuck = stuck }
