-- The literals of a trail by their places.
use Rattle.std.proofs.Common.{◌≡◌, ℕ, suc, ◌<◌, ◌≤◌, Bool, true, false, List, [], ◌∷◌, inl, inr, sym, ◌∙◌, ap, subst, length, get_or, map}
use Rattle.std.proofs.Common.{Option, Some, arith, eqb}
use Rattle.std.specs.List.{list_any}
use Rattle.std.proofs.lemmas.List.{get_or-map, length-map}
use Rattle.std.proofs.lemmas.Bool.{cases_eq, ne_eqb}
use Rattle.std.proofs.lemmas.Map.Keys.{IsDistinct-from_apart}
use Rattle.std.proofs.lemmas.Map.Steps.{length-le_from_distinct_below}
use Rattle.lv_cnf.specs.declared.literal.Lit.{Lit}
use Rattle.lv_cnf.specs.Packed.{at}
use Rattle.lv_watch.specs.declared.trail.Assigned.{Assigned}
use Rattle.lv_watch.specs.declared.trail.Trail.{Trail}
use Rattle.lv_watch.specs.Values.{value, is_held, held, before, keeps}
use Rattle.lv_watch.specs.Lists.{Within}
use Rattle.lv_watch.specs.Trail.{HasTrail}
use Rattle.lv_watch.proofs.Levels.{same_signs, signed_same, keeps_le, before_is, before_at, value_in_range}

module _ (clauses : List (List Lit)) (trail : Trail) (is : HasTrail clauses trail) where
  abbrev values : List (Option Assigned)
  values = trail.values.items

  abbrev lits : List Lit
  lits = trail.lits.items

  pub place_before : (i p : ℕ) → i < length lits → i < p → before values p (at lits i) ≡ true
  place_before i p lt ip =
      let h = is.placed i lt in
      before_at values p (at lits i) h.0 h.1 (rw h.3 ip) (signed_same (at lits i).positive h.0.positive h.2)

  pub place_held : (i : ℕ) → i < length lits → held values (at lits i) ≡ true
  place_held i lt =
      let h = is.placed i lt in
      ap (is_held (at lits i).positive) h.1 ∙ signed_same (at lits i).positive h.0.positive h.2

  pub place_after : (i p : ℕ) → i < length lits → p ≤ i → before values p (at lits i) ≡ false
  place_after i p lt le =
      let h = is.placed i lt in
      ap (λ (o : Option Assigned). is_held (at lits i).positive (keeps p o)) h.1
      ∙ ap (is_held (at lits i).positive) (keeps_le p h.0 (rw h.3 le))

  pub place_of : (p : ℕ) (l : Lit) → before values p l ≡ true → (i : ℕ) × (i < p) × (i < length lits) × (at lits i ≡ l)
  place_of p l e =
      let b = before_is values p l e in
      let k = is.back l.var b.0 b.1 in
      let make : Bool → Lit = λ s. record { var = l.var; positive = s } in
      (b.0.place, b.2, k.0, k.1 ∙ ap make (sym (same_signs l.positive b.0.positive b.3)))

  pub place_small : (i : ℕ) → i < length lits → (at lits i).var < length values
  place_small i lt = let h = is.placed i lt in value_in_range values (at lits i).var h.0 h.1

  pub places_differ : (i j : ℕ) → i < length lits → j < length lits → (at lits i).var ≡ (at lits j).var → i ≡ j
  places_differ i j il jl e =
      let a = is.placed i il in
      let b = is.placed j jl in
      let s : Some a.0 ≡ Some b.0 = sym a.1 ∙ ap (value values) e ∙ b.1 in
      let same : a.0 ≡ b.0 = cc in
      sym a.3 ∙ ap (λ (h : Assigned). h.place) same ∙ b.3

  pub before_within : (p : ℕ) → Within (before values p) (held values)
  before_within p l e =
      let k = place_of p l e in
      subst (λ (m : Lit). held values m ≡ true) k.3 (place_held k.0 k.2)

  pub before_more : (p q : ℕ) → p ≤ q → Within (before values p) (before values q)
  before_more p q le l e =
      let k = place_of p l e in
      subst (λ (m : Lit). before values q m ≡ true) k.3 (place_before k.0 q k.2 (omega (arith, k.1)))

  abbrev var_of : Lit → ℕ
  var_of l = l.var

  -- each variable is on the trail once at most
  pub trail_short : length lits ≤ length values
  trail_short =
      let len : length (map var_of lits) ≡ length lits = length-map lits var_of in
      let var_at : (i d : ℕ) → i < length lits → get_or (map var_of lits) i d ≡ (at lits i).var = λ i d lt. get_or-map var_of lits i _ d lt in
      rw len at (length-le_from_distinct_below (map var_of lits) (length values)
      (IsDistinct-from_apart eqb (map var_of lits) (λ i j d ij jl.
      let jl' : j < length lits = rw (← len) jl in
      let il' : i < length lits = omega (arith, ij, jl') in
      ne_eqb _ _ (λ e. let s = places_differ i j il' jl' (sym (var_at i d il') ∙ e ∙ var_at j d jl') in omega (arith, s, ij))))
      (λ q h. let k = any_eqb (map var_of lits) q h in
      let lt : k.0 < length lits = rw (← len) k.1 in
      subst (λ (n : ℕ). n < length values) (sym (var_at k.0 0 lt) ∙ k.2) (place_small k.0 lt)))
    where
      any_eqb : (xs : List ℕ) (q : ℕ) → list_any (eqb q) xs ≡ true → (k : ℕ) × (k < length xs) × (get_or xs k 0 ≡ q)
      any_eqb [] q e = cc
      any_eqb (x ∷ xs) q e = elim (cases_eq q x) [
        | inl s ↦ (0, omega arith, sym s)
        | inr ne ↦
            let f : eqb q x ≡ false = ne_eqb q x ne in
            let r = any_eqb xs q (rw f at e) in (suc r.0, omega (arith, r.1), r.2)
      ]
