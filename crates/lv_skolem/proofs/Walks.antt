-- A way back along edges, on which a sort comes again, ends in a cycle.
use Rattle.std.proofs.Common.{◌≡◌, ◌≢◌, ℕ, zero, suc, ◌+◌, ◌<◌, Bool, true, false, cond, eqb, List, [], ◌∷◌, length, get_or, refl, sym, ap, ◌∙◌, subst, arith, set, inl, inr, Some, None}
use Rattle.std.specs.Prelude.{slice_get}
use Rattle.std.specs.List.{All, AllPairs}
use Rattle.std.proofs.lemmas.Bool.{cases_eq, eqb-true, eq-eqb}
use Rattle.std.proofs.lemmas.List.{get_or-set_same, get_or-set_other, length-set}
use Rattle.std.proofs.lemmas.List.Kept.{AllPairs-cons}
use Rattle.lv_formula.specs.declared.symbols.SortId.{SortId}
use Rattle.lv_places.specs.declared.skolem.Place.{Place}
use Rattle.lv_places.specs.Universes.{count_at, argument_sorts}
use Rattle.lv_places.specs.SortGraphs.{SortsBelow, IsEdge, Leads, IsCycle, IsRank, RanksBelow, CycleIs}
use Rattle.lv_skolem.specs.Ranking.{IsAmong, AreRanked, IsFree, LeadsTo, AreLower, AreOrdered, RanksAre, AreInRange, UnrankedIs, zeros, until}
use Rattle.lv_places.proofs.Tests.{either}
use Rattle.lv_places.proofs.Universes.{same_sorts}
use Rattle.lv_skolem.proofs.Ranks.{zeros_set}

-- ---- edges

among_at : (a : SortId) (ss : List SortId) → IsAmong a ss → (i : ℕ) × (slice_get ss i ≡ Some a)
among_at a [] h = absurd h
among_at a (s ∷ ss) (inl e) = (0, ap Some e)
among_at a (s ∷ ss) (inr h) = let r = among_at a ss h in (suc r.0, r.1)

edge_of : (places : List Place) (a s : SortId) → LeadsTo places a s → IsEdge places a s
edge_of [] a s h = absurd h
edge_of (p ∷ ps) a s (inl h) = let r = among_at a (argument_sorts p) h.1 in
    record { number = 0; place = p; there = refl; position = r.0; argument = r.1; result = same_sorts p.sort s h.0 }
edge_of (p ∷ ps) a s (inr h) = let e = edge_of ps a s h in
    record { number = suc e.number; place = e.place; there = e.there; position = e.position; argument = e.argument; result = e.result }

below_among : (n : ℕ) (a : SortId) (ss : List SortId) → SortsBelow n ss → IsAmong a ss → a.0 < n
below_among n a [] h i = absurd i
below_among n a (s ∷ ss) h (inl e) = subst (λ (z : SortId). z.0 < n) e h.0
below_among n a (s ∷ ss) h (inr i) = below_among n a ss h.1 i

led_in_range : (sorts : ℕ) (places : List Place) (a s : SortId) → AreInRange sorts places → LeadsTo places a s → a.0 < sorts
led_in_range sorts [] a s h l = absurd l
led_in_range sorts (p ∷ ps) a s h (inl l) = below_among sorts a (argument_sorts p) h.1 l.1
led_in_range sorts (p ∷ ps) a s h (inr l) = led_in_range sorts ps a s h.2 l

ranked_among : (ranks : List ℕ) (a : SortId) (ss : List SortId) → AreRanked ranks ss → IsAmong a ss → 0 < count_at ranks a
ranked_among ranks a [] h i = absurd i
ranked_among ranks a (s ∷ ss) h (inl e) = subst (λ (z : SortId). 0 < count_at ranks z) e h.0
ranked_among ranks a (s ∷ ss) h (inr i) = ranked_among ranks a ss h.1 i

free_ranked : (ranks : List ℕ) (places : List Place) (a s : SortId) → IsFree ranks places s → LeadsTo places a s → 0 < count_at ranks a
free_ranked ranks [] a s h l = absurd l
free_ranked ranks (p ∷ ps) a s h (inl l) = ranked_among ranks a (argument_sorts p) (h.0 l.0) l.1
free_ranked ranks (p ∷ ps) a s h (inr l) = free_ranked ranks ps a s h.1 l

-- ---- ranks of all sorts

lower_below : (ranks : List ℕ) (k : ℕ) (ss : List SortId) → AreLower ranks k ss → RanksBelow (count_at ranks) k ss
lower_below ranks k [] h = tt
lower_below ranks k (s ∷ ss) h = (h.1, lower_below ranks k ss h.2)

all_ordered : (ranks : List ℕ) (sorts : ℕ) (places : List Place) → AreOrdered ranks places → AreInRange sorts places
    → ((s : SortId) → s.0 < sorts → 0 < count_at ranks s) → IsRank places (count_at ranks)
all_ordered ranks sorts [] h range all k p e = absurd (cc)
all_ordered ranks sorts (q ∷ ps) h range all zero p e =
    let is : q ≡ p = cc in
    subst (λ (z : Place). RanksBelow (count_at ranks) (count_at ranks z.sort) (argument_sorts z)) is
    (lower_below ranks (count_at ranks q.sort) (argument_sorts q) (h.0 (all q.sort range.0)))
all_ordered ranks sorts (q ∷ ps) h range all (suc k) p e = all_ordered ranks sorts ps h.1 range.2 all k p e

pub all_ranked : (ranks : List ℕ) (sorts : ℕ) (places : List Place) → RanksAre ranks places sorts → AreInRange sorts places → UnrankedIs ranks sorts None
    → CycleIs places None
all_ranked ranks sorts places h range all = (count_at ranks, all_ordered ranks sorts places h.ordered range all)

-- ---- the way back

-- edges lead from the sort along the list
abbrev pub Backed : List Place → SortId → List SortId → Type 0
Backed places a [] = Unit {0}
Backed places a (s ∷ ss) = LeadsTo places a s × Backed places s ss

abbrev pub Distinct : List SortId → Type 0
Distinct [] = Unit {0}
Distinct (s ∷ ss) = (IsAmong s ss → ⊥) × Distinct ss

pub record IsWalk (ranks : List ℕ) (places : List Place) (sorts : ℕ) (seen : List ℕ) (path : List SortId) (here : SortId) (step : ℕ) : Type 0 where
  pub len : length seen ≡ sorts
  pub left : zeros seen + step ≡ sorts
  pub within : here.0 < sorts
  pub unranked : count_at ranks here ≡ 0
  pub marked : (s : SortId) → 0 < count_at seen s → IsAmong s path
  pub seen_all : (s : SortId) → IsAmong s path → 0 < count_at seen s
  pub distinct : Distinct path
  pub back : Backed places here path

among_get : (xs : List SortId) (k : ℕ) (d : SortId) → k < length xs → IsAmong (get_or xs k d) xs
among_get [] k d l = absurd (omega arith)
among_get (x ∷ xs) zero d l = inl refl
among_get (x ∷ xs) (suc k) d l = inr (among_get xs k d (omega arith))

all_differ : (a : SortId) (xs : List SortId) → (IsAmong a xs → ⊥) → All (λ b. a ≢ b) xs
all_differ a xs h k d l e = h (subst (λ z. IsAmong z xs) (sym e) (among_get xs k d l))

pairs_differ : (xs : List SortId) → Distinct xs → AllPairs (λ a b. a ≢ b) xs
pairs_differ [] h = λ i j d before l. absurd (omega arith)
pairs_differ (x ∷ xs) h = AllPairs-cons (λ a b. a ≢ b) x xs (all_differ x xs h.0) (pairs_differ xs h.1)

-- the front of a list
front_among : (a b : SortId) (xs : List SortId) → IsAmong b (until a xs) → IsAmong b xs
front_among a b [] h = h
front_among a b (x ∷ xs) (inl e) = inl e
front_among a b (x ∷ xs) (inr h) = inr (step (eqb x.0 a.0) (front_among a b xs) h)
  where
    step : (t : Bool) → (IsAmong b (until a xs) → IsAmong b xs) → IsAmong b (cond t [] (until a xs)) → IsAmong b xs
    step true ih h = absurd h
    step false ih h = ih h

front_distinct : (a : SortId) (xs : List SortId) → Distinct xs → Distinct (until a xs)
front_distinct a [] h = tt
front_distinct a (x ∷ xs) h = step (eqb x.0 a.0) (front_distinct a xs h.1)
  where
    step : (t : Bool) → Distinct (until a xs) → Distinct (x ∷ cond t [] (until a xs))
    step true ih = ((λ z. z), tt)
    step false ih = ((λ z. h.0 (front_among a x xs z)), ih)

-- from s along the list to a, and from a to the end
leads_until : (places : List Place) (a s end : SortId) (ss : List SortId) → Backed places s ss → IsAmong a ss → LeadsTo places a end
    → Leads places s (until a ss) end
leads_until places a s end [] back i last = absurd i
leads_until places a s end (t ∷ ts) back i last = (edge_of places s t back.0, step (eqb t.0 a.0) refl (λ j. leads_until places a t end ts back.1 j last) i)
  where
    step : (b : Bool) → eqb t.0 a.0 ≡ b → (IsAmong a ts → Leads places t (until a ts) end) → IsAmong a (t ∷ ts) → Leads places t (cond b [] (until a ts)) end
    step true e ih i = edge_of places t end (subst (λ z. LeadsTo places z end) (sym (same_sorts t a (eqb-true t.0 a.0 e))) last)
    step false e ih (inl q) = absurd (let z = ap (λ (y : SortId). y.0) q in let w : eqb t.0 a.0 ≡ true = eq-eqb t.0 a.0 z in cc)
    step false e ih (inr j) = ih j

cycle_until : (places : List Place) (a : SortId) (path : List SortId) → Backed places a path → IsAmong a path → Distinct path → IsCycle places (until a path)
cycle_until places a [] back i distinct = absurd i
cycle_until places a (p ∷ ps) back i distinct =
    (pairs_differ (until a (p ∷ ps)) (front_distinct a (p ∷ ps) distinct), step (eqb p.0 a.0) refl i)
  where
    step : (b : Bool) → eqb p.0 a.0 ≡ b → IsAmong a (p ∷ ps) → Leads places p (cond b [] (until a ps)) p
    step true e i = edge_of places p p (subst (λ z. LeadsTo places z p) (sym (same_sorts p a (eqb-true p.0 a.0 e))) back.0)
    step false e (inl q) = absurd (let z = ap (λ (y : SortId). y.0) q in let w : eqb p.0 a.0 ≡ true = eq-eqb p.0 a.0 z in cc)
    step false e (inr j) = leads_until places a p p ps back.1 j back.0

pub walk_starts : (ranks : List ℕ) (places : List Place) (sorts : ℕ) (seen : List ℕ) (start : SortId) → length seen ≡ sorts → zeros seen ≡ sorts
    → ((s : SortId) → count_at seen s ≡ 0) → start.0 < sorts → count_at ranks start ≡ 0 → IsWalk ranks places sorts seen [] start 0
walk_starts ranks places sorts seen start len none zero_at l e = record {
  len = len;
  left = omega arith;
  within = l;
  unranked = e;
  marked = λ s h. let z = zero_at s in absurd (omega arith);
  seen_all = λ s h. absurd h;
  distinct = tt;
  back = tt;
}

module _ (ranks : List ℕ) (places : List Place) (sorts : ℕ) (seen : List ℕ) (path : List SortId) (here : SortId) (step : ℕ)
    (walk : IsWalk ranks places sorts seen path here step) where
  pub walk_closes : 0 < count_at seen here → IsCycle places (until here path)
  walk_closes l = cycle_until places here path walk.back (walk.marked here l) walk.distinct

  pub walk_leads_on : RanksAre ranks places sorts → IsFree ranks places here → ⊥
  walk_leads_on ranked free =
      let a = ranked.stuck here walk.within walk.unranked in
      let b = free_ranked ranks places a.0 here free a.1 in
      let c = a.2 in omega arith

  pub walk_ends : sorts < step → ⊥
  walk_ends l = let z = walk.left in omega arith

  pub walk_on : AreInRange sorts places → count_at seen here ≡ 0 → (next : SortId) → LeadsTo places next here → count_at ranks next ≡ 0
      → IsWalk ranks places sorts (set seen here.0 1) (here ∷ path) next (step + 1)
  walk_on range unseen next leads e =
      let inside : here.0 < length seen = let z = walk.len in let w = walk.within in omega arith in
      let same = get_or-set_same seen here.0 1 0 inside in
      record {
        len = length-set seen here.0 1 ∙ walk.len;
        left = let z = zeros_set seen here.0 0 inside unseen in let w = walk.left in omega arith;
        within = led_in_range sorts places next here range leads;
        unranked = e;
        marked = λ s l. either (cases_eq s.0 here.0)
            (λ q. inl (same_sorts here s (sym q)))
            (λ ne. inr (walk.marked s (let o = get_or-set_other seen here.0 s.0 1 0 ne in omega arith)));
        seen_all = λ s i. either (cases_eq s.0 here.0)
            (λ q. let z = ap (λ j. get_or (set seen here.0 1) j 0) q in omega arith)
            (λ ne. let o = get_or-set_other seen here.0 s.0 1 0 ne in among_step s i ne o);
        distinct = ((λ i. let z = walk.seen_all here i in omega arith), walk.distinct);
        back = (leads, walk.back);
      }
    where
      among_step : (s : SortId) → IsAmong s (here ∷ path) → s.0 ≢ here.0 → count_at (set seen here.0 1) s ≡ count_at seen s → 0 < count_at (set seen here.0 1) s
      among_step s (inl q) ne o = absurd (ne (ap (λ (y : SortId). y.0) (sym q)))
      among_step s (inr i) ne o = let z = walk.seen_all s i in omega arith
