-- A rank leaves no cycle.
use Rattle.std.proofs.Common.{◌≡◌, ℕ, zero, suc, ◌<◌, List, [], ◌∷◌, Option, Some, None, subst, arith}
use Rattle.std.specs.Prelude.{slice_get}
use Rattle.lv_formula.specs.declared.symbols.SortId.{SortId}
use Rattle.lv_places.specs.declared.skolem.Place.{Place}
use Rattle.lv_places.specs.Universes.{argument_sorts}
use Rattle.lv_places.specs.SortGraphs.{IsEdge, Leads, IsCycle, HasCycle, RanksBelow, IsRank, CycleIs, TellsCycle}

rank_below : (rank : SortId → ℕ) (n i : ℕ) (s : SortId) (ss : List SortId) → RanksBelow rank n ss → slice_get ss i ≡ Some s → rank s < n
rank_below rank n i s [] h e = absurd (cc)
rank_below rank n zero s (t ∷ ss) h e = let is : t ≡ s = cc in subst (λ (z : SortId). rank z < n) is h.0
rank_below rank n (suc i) s (t ∷ ss) h e = rank_below rank n i s ss h.1 e

edge_up : (places : List Place) (rank : SortId → ℕ) → IsRank places rank → (s t : SortId) → IsEdge places s t → rank s < rank t
edge_up places rank ranks s t e =
    let b = rank_below rank (rank (e.place).sort) e.position s (argument_sorts e.place) (ranks e.number e.place e.there) e.argument in
    subst (λ (z : SortId). rank s < rank z) e.result b

leads_up : (places : List Place) (rank : SortId → ℕ) → IsRank places rank → (s : SortId) (ts : List SortId) (end : SortId) → Leads places s ts end
    → rank s < rank end
leads_up places rank ranks s [] end h = edge_up places rank ranks s end h
leads_up places rank ranks s (t ∷ ts) end h =
    let a = edge_up places rank ranks s t h.0 in
    let b = leads_up places rank ranks t ts end h.1 in
    omega arith

pub no_cycle : (places : List Place) (rank : SortId → ℕ) → IsRank places rank → HasCycle places → ⊥
no_cycle places rank ranks c = none c.0 c.1
  where
    none : (l : List SortId) → IsCycle places l → ⊥
    none [] h = h
    none (s ∷ ss) h = let a = leads_up places rank ranks s ss s h.1 in omega arith

pub cycle_told : (places : List Place) (o : Option (List SortId)) → CycleIs places o → TellsCycle places o
cycle_told places None is = no_cycle places is.0 is.1
cycle_told places (Some l) is = is
