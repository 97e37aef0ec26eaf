-- What holds whatever is decided.
use Rattle.std.proofs.Common.{◌≡◌, ℕ, zero, suc, ◌<◌, ◌≤◌, Bool, true, List, [], ◌⊎◌, inl, inr, ◌∙◌, ap, subst, length, Option, Some, None, arith}
use Rattle.std.specs.List.{Contains}
use Rattle.std.proofs.lemmas.List.{get_or_default}
use Rattle.std.proofs.lemmas.List.Elements.{All-weaker}
use Rattle.lv_cnf.specs.declared.literal.Lit.{Lit}
use Rattle.lv_cnf.specs.Literals.{negated}
use Rattle.lv_cnf.specs.Propagation.{IsConsistent, Settles, Follows}
use Rattle.lv_cnf.proofs.Logic.{forced_unit, no_conflict}
use Rattle.lv_cnf.specs.Packed.{at, clause_at}
use Rattle.lv_watch.specs.declared.trail.Trail.{Trail}
use Rattle.lv_watch.specs.Values.{before}
use Rattle.lv_watch.specs.Trail.{IsPast, Comes, HasTrail}
use Rattle.lv_propagate.specs.State.{IsConflict, Given}
use Rattle.lv_watch.proofs.Trails.{held_before}
use Rattle.lv_watch.proofs.Places.{place_of}

module _ (clauses : List (List Lit)) (trail : Trail) (is : HasTrail clauses trail) (s : Lit →
    Bool) (con : IsConsistent s) (settles : Settles s clauses) (low : ℕ)
    (first : (p : ℕ) → Contains trail.starts.items p → low ≤ p) where
  by_reason : (l : Lit) (place : ℕ) (o : Option ℕ) → place < low → Comes clauses trail.values.items trail.starts.items l place o →
      ((m : Lit) → before trail.values.items place m ≡ true → s m ≡ true) → s l ≡ true
  by_reason l place None lt has below = let a = first place has in absurd (omega (arith, a, lt))
  by_reason l place (Some c) lt reason below =
      forced_unit s (clause_at clauses c) l con
      (All-weaker (IsPast trail.values.items place l) (λ m. (m ≡ l) ⊎ (s (negated m) ≡ true)) (λ m o. elim o [
        | inl e ↦ inl e
        | inr t ↦
            inr (below (negated m) t)
      ])
      (clause_at clauses c) reason.others)
      (settles c [] reason.there)

  places_hold : (fuel i : ℕ) → i < fuel → i < low → i < length trail.lits.items → s (at trail.lits.items i) ≡ true
  places_hold zero i f lt il = absurd (omega arith)
  places_hold (suc fuel) i f lt il =
      let h = is.placed i il in
      let l = at trail.lits.items i in
      let make : Bool → Lit = λ b. record { var = l.var; positive = b } in
      let comes : Comes clauses trail.values.items trail.starts.items l h.0.place h.0.reason =
      subst (λ (m : Lit). Comes clauses trail.values.items trail.starts.items m h.0.place h.0.reason) (ap make h.2) (is.comes l.var h.0 h.1) in
      by_reason l h.0.place h.0.reason (rw h.3 lt) comes (λ m e.
      let k = place_of clauses trail is h.0.place m e in
      let at' = h.3 in
      subst (λ (x : Lit). s x ≡ true) k.3 (places_hold fuel k.0 (let a = k.1 in omega (arith, a, at', f)) (let a = k.1 in omega (arith, a, at', lt)) k.2))

  pub below_first_holds : (l : Lit) → before trail.values.items low l ≡ true → s l ≡ true
  below_first_holds l e =
      let k = place_of clauses trail is low l e in
      subst (λ (x : Lit). s x ≡ true) k.3 (places_hold low k.0 k.1 k.1 k.2)

-- what stands below the first decision holds in each set that settles the clauses
pub given_below : (clauses : List (List Lit)) (trail : Trail) → HasTrail clauses trail → (low : ℕ) → ((p : ℕ) → Contains trail.starts.items p → low ≤ p) →
    Given clauses (before trail.values.items low)
given_below clauses trail is low first s con settles = below_first_holds clauses trail is s con settles low first

-- a clause that came out false without a decision refutes the clauses
pub refuted : (clauses : List (List Lit)) (trail : Trail) (i : ℕ) → HasTrail clauses trail → ((p : ℕ) → Contains trail.starts.items p → ⊥) →
    IsConflict clauses trail i → Follows clauses []
refuted clauses trail i is none conflict s con denied settles =
    let lits = clause_at clauses i in
    no_conflict s lits con
    (λ k d lt.
    let f : before trail.values.items (length trail.lits.items) (negated (at lits k)) ≡ true =
    held_before clauses trail.values.items trail.lits.items trail.starts.items is (negated (at lits k)) ∙ conflict.1 k lt in
    subst (λ (m : Lit). s (negated m) ≡ true) (get_or_default lits k _ d lt)
    (given_below clauses trail is (length trail.lits.items) (λ p has. absurd (none p has)) s con settles (negated (at lits k)) f))
    (settles i [] conflict.0)
