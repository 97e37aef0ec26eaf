-- The begin of an analysis, and what it reads.
use Rattle.std.proofs.Common.{◌≡◌, ℕ, zero, suc, ◌+◌, ◌*◌, ◌<◌, ◌≤◌, Bool, true, false, List, [], ◌∷◌, inl, inr, refl, sym, ◌∙◌, ap, subst, length}
use Rattle.std.proofs.Common.{get_or, Option, Some, None, replicate, arith}
use Rattle.std.specs.Prelude.{map}
use Rattle.std.specs.List.{All, AllByRecursion, Contains, sum_by}
use Rattle.std.proofs.Math.ListN.{get_or-map}
use Rattle.std.proofs.Math.Nat.{mul-le-mul_left}
use Rattle.std.proofs.lemmas.List.{get_or_default, length-replicate}
use Rattle.std.proofs.lemmas.List.Elements.{All-contains, Contains-get_or}
use Rattle.std.proofs.lemmas.List.Sums.{sum_by-cons}
use Rattle.std.proofs.lemmas.Bool.{cases_eq, cases_lt}
use Rattle.lv_cnf.specs.declared.literal.Lit.{Lit}
use Rattle.lv_cnf.specs.Literals.{negated, InRange}
use Rattle.lv_cnf.proofs.Logic.{no_conflict, clash}
use Rattle.lv_cnf.specs.Packed.{at, clause_at}
use Rattle.lv_watch.specs.declared.trail.Assigned.{Assigned}
use Rattle.lv_watch.specs.declared.trail.Trail.{Trail}
use Rattle.lv_watch.specs.Values.{value, held, before, reason_of}
use Rattle.lv_watch.specs.Lists.{lengths_at}
use Rattle.lv_watch.specs.Trail.{start_at, IsPast, IsReason, Comes, HasTrail}
use Rattle.lv_propagate.specs.State.{IsConflict}
use Rattle.lv_propagate.specs.Potential.{squares}
use Rattle.lv_watch.proofs.Index.{at_place}
use Rattle.lv_watch.proofs.Levels.{same_signs, opposite, before-consistent, before_at, held_is}
use Rattle.lv_watch.proofs.Walking.{held-consistent}
use Rattle.lv_watch.proofs.Places.{place_held, places_differ, before_within}
use Rattle.lv_propagate.proofs.Sums.{same, sum_at, Apart, sum_at_le}
use Rattle.lv_sat.specs.declared.analysis.Analysis.{Analysis}
use Rattle.lv_sat.specs.Analysis.{mark_at, Begins, IsMarking, Marks, IsOfTrail, reasons, cons_reason, SettlesAtStarts}

no_mark : (n i : ℕ) → mark_at (replicate n false) i ≡ false
no_mark zero i = refl
no_mark (suc n) zero = refl
no_mark (suc n) (suc i) = no_mark n i

pub begins_marking : (trail : Trail) (a : Analysis) → Begins trail a → IsMarking a
begins_marking trail a is =
    let off : (i : ℕ) → mark_at a.marks.items i ≡ false = λ i. ap (λ (xs : List Bool). mark_at xs i) is.marks ∙ no_mark (length trail.lits.items) i in
    record {
      above = λ i e. absurd (clash (mark_at a.marks.items i) e (off i));
      low = λ i le e. absurd (clash (mark_at a.marks.items i) e (off i));
      lowest = λ lt. let x = ap length is.marks in let y = length-replicate (length trail.lits.items) false in let z = is.lowest in
          absurd (omega (arith, lt, x, y, z));
    }

pub begins_cut : (clauses : List (List Lit)) (trail : Trail) (a : Analysis) → HasTrail clauses trail → All (InRange (length trail.values.items)) clauses →
    0 < length trail.starts.items → Begins trail a → IsOfTrail clauses trail a
begins_cut clauses trail a sound range some is =
    let starts = trail.starts.items in
    let end : (i : ℕ) → i + 1 ≡ length starts → a.start ≡ start_at starts i = is.start in
    let last = pred (length starts) some in
    record {
      sound = sound;
      range = range;
      size = ap length is.marks ∙ length-replicate (length trail.lits.items) false;
      first = λ p has.
          let k = at_place starts p has in
          let e = k.2 in
          let f = is.first in
          elim (cases_eq k.0 0) [
            | inl z ↦ let x = ap (start_at starts) z in omega (arith, x, e, f)
            | inr ne ↦ let r = sound.rising 0 k.0 (omega (arith, ne)) k.1 in omega (arith, r, e, f)
          ];
      last = λ p has.
          let k = at_place starts p has in
          let e = k.2 in
          let lt = k.1 in
          let f = end last.0 last.1 in
          let n = last.1 in
          elim (cases_eq k.0 last.0) [
            | inl z ↦ let x = ap (start_at starts) z in omega (arith, x, e, f)
            | inr ne ↦ let r = sound.rising k.0 last.0 (omega (arith, ne, lt, n)) (omega (arith, n)) in omega (arith, r, e, f)
          ];
      there = subst (Contains starts) (sym (end last.0 last.1)) (Contains-get_or starts last.0 0 (let n = last.1 in omega (arith, n)));
    }
  where
    pred : (n : ℕ) → 0 < n → (m : ℕ) × (m + 1 ≡ n)
    pred zero lt = absurd (omega arith)
    pred (suc m) lt = (m, omega arith)

-- some literal of the false clause came with the last decision or later
pub conflict_late : (clauses : List (List Lit)) (trail : Trail) (old a : Analysis) (i : ℕ) → IsOfTrail clauses trail a → IsMarking a →
    IsConflict clauses trail i →
    Marks old a trail (clause_at clauses i) → SettlesAtStarts clauses trail → a.lowest < length trail.lits.items
conflict_late clauses trail old a i of_trail marking conflict marks settled = elim (cases_lt a.lowest (length trail.lits.items)) [
  | inl lt ↦ lt
  | inr past ↦
      let V = trail.values.items in
      let lits = clause_at clauses i in
      absurd (no_conflict (before V a.start) lits (before-consistent V a.start)
      (λ k d lt.
      let m = get_or lits k d in
      let f : held V (negated m) ≡ true = ap (λ (x : Lit). held V (negated x)) (get_or_default lits k d _ lt) ∙ conflict.1 k lt in
      let h = held_is (negated m).positive (value V m.var) f in
      let inside = (of_trail.sound.back m.var h.0 h.1).0 in
      before_at V a.start (negated m) h.0 h.1
      (elim (cases_lt h.0.place a.start) [
        | inl lt' ↦ lt'
        | inr late ↦
            let above = of_trail.first a.start of_trail.there in
            let on = marks.covers k d lt h.0.place (h.0, h.1, opposite m.positive h.0.positive h.2, refl) (omega (arith, late, above)) in
            let low = marking.low h.0.place late on in absurd (omega (arith, low, inside, past))
      ])
      h.2)
      (settled a.start of_trail.there i [] conflict.0))
]

-- ---- reads

weights_sum : (clauses : List (List Lit)) (list : List ℕ) → lengths_at clauses list ≡ sum_at (map length clauses) list
weights_sum clauses [] = refl
weights_sum clauses (i ∷ is) = let a = weights_sum clauses is in
    let b : get_or (map length clauses) i 0 ≡ length (clause_at clauses i) = get_or-map length clauses i [] in omega (arith, a, b)

self_le_square : (n : ℕ) → n ≤ n * n
self_le_square zero = omega arith
self_le_square (suc n) = let a = mul-le-mul_left (suc n) (one_le n) in omega (arith, a)
  where
    one_le : (n : ℕ) → 1 ≤ suc n
    one_le n = omega arith

lengths_le : (clauses : List (List Lit)) → sum_by same (map length clauses) ≤ squares clauses
lengths_le [] = omega arith
lengths_le (c ∷ cs) =
    let a = lengths_le cs in
    let b = self_le_square (length c) in
    let d : sum_by same (length c ∷ map length cs) ≡ length c + sum_by same (map length cs) = sum_by-cons same (length c) (map length cs) in
    omega (arith, a, b, d)

pub reads_le : (clauses : List (List Lit)) (list : List ℕ) → Apart list → lengths_at clauses list ≤ squares clauses
reads_le clauses list apart =
    let a = weights_sum clauses list in
    let b = sum_at_le list (map length clauses) apart in
    let d = lengths_le clauses in
    omega (arith, a, b, d)

module _ (clauses : List (List Lit)) (trail : Trail) (is : HasTrail clauses trail) where
  abbrev V : List (Option Assigned)
  V = trail.values.items

  reason_for : (l : Lit) (c : ℕ) → held V l ≡ true → reason_of (value V l.var) ≡ Some c → (p : ℕ) × IsReason clauses V l p c
  reason_for l c on e =
      let h = held_is l.positive (value V l.var) on in
      let make : Bool → Lit = λ b. record { var = l.var; positive = b } in
      let r : h.0.reason ≡ Some c = sym (ap reason_of h.1) ∙ e in (
        h.0.place,
        subst (Comes clauses V trail.starts.items l h.0.place) r
            (subst (λ (m : Lit). Comes clauses V trail.starts.items m h.0.place h.0.reason) (sym (ap make (same_signs l.positive h.0.positive h.2)))
            (is.comes l.var h.0 h.1)),
      )

  within : (p : ℕ) (l : Lit) → before V p l ≡ true → held V l ≡ true
  within p l e = before_within clauses trail is p l e

  -- no clause forces two literals
  two_reasons : (l m : Lit) (c : ℕ) → held V l ≡ true → held V m ≡ true → reason_of (value V l.var) ≡ Some c → reason_of (value V m.var) ≡ Some c → l ≡ m
  two_reasons l m c ol om el em =
      let a = reason_for l c ol el in
      let b = reason_for m c om em in
      elim (All-contains (IsPast V a.0 l) (clause_at clauses c) m a.1.others b.1.has) [
        | inl e ↦ sym e
        | inr f ↦ absurd (clash (held V (negated m)) (within a.0 (negated m) f) (held-consistent V m om))
      ]

  others_apart : (l : Lit) (c : ℕ) (ls : List Lit) → held V l ≡ true → reason_of (value V l.var) ≡ Some c →
      ((k : ℕ) → k < length ls → held V (at ls k) ≡ true) → ((k : ℕ) → k < length ls → l ≡ at ls k → ⊥) → AllByRecursion (λ d. d ≡ c → ⊥) (reasons V ls)
  others_apart l c [] on e all' ne = tt
  others_apart l c (m ∷ ls) on e all' ne =
      go (reason_of (value V m.var)) refl (others_apart l c ls on e (λ k lt. all' (suc k) (omega (arith, lt))) (λ k lt. ne (suc k) (omega (arith, lt))))
    where
      go : (o : Option ℕ) → reason_of (value V m.var) ≡ o → AllByRecursion (λ d. d ≡ c → ⊥) (reasons V ls) →
          AllByRecursion (λ d. d ≡ c → ⊥) (cons_reason o (reasons V ls))
      go None f rest = rest
      go (Some d) f rest = (λ same. ne 0 (omega arith) (two_reasons l m c on (all' 0 (omega arith)) e (f ∙ ap Some same)), rest)

  reasons_apart : (ls : List Lit) → ((k : ℕ) → k < length ls → held V (at ls k) ≡ true) → ((j k : ℕ) → j < k → k < length ls → at ls j ≡ at ls k → ⊥) →
      Apart (reasons V ls)
  reasons_apart [] all' ne = tt
  reasons_apart (l ∷ ls) all' ne = go (reason_of (value V l.var)) refl (reasons_apart ls (λ k lt. all' (suc k) (omega (arith, lt)))
      (λ j k jk lt. ne (suc j) (suc k) (omega (arith, jk)) (omega (arith, lt))))
    where
      go : (o : Option ℕ) → reason_of (value V l.var) ≡ o → Apart (reasons V ls) → Apart (cons_reason o (reasons V ls))
      go None f rest = rest
      go (Some c) f rest = (
        others_apart l c ls (all' 0 (omega arith)) f (λ k lt. all' (suc k) (omega (arith, lt))) (λ k lt. ne 0 (suc k) (omega arith) (omega (arith, lt))),
        rest,
      )

  conflict_apart : (i : ℕ) (ls : List Lit) → IsConflict clauses trail i → ((k : ℕ) → k < length ls → held V (at ls k) ≡ true) →
      AllByRecursion (λ d. d ≡ i → ⊥) (reasons V ls)
  conflict_apart i [] conflict all' = tt
  conflict_apart i (m ∷ ls) conflict all' = go (reason_of (value V m.var)) refl (conflict_apart i ls conflict (λ k lt. all' (suc k) (omega (arith, lt))))
    where
      go : (o : Option ℕ) → reason_of (value V m.var) ≡ o → AllByRecursion (λ d. d ≡ i → ⊥) (reasons V ls) →
          AllByRecursion (λ d. d ≡ i → ⊥) (cons_reason o (reasons V ls))
      go None f rest = rest
      go (Some d) f rest = (
        λ same.
            let on = all' 0 (omega arith) in
            let b = reason_for m d on f in
            let has : Contains (clause_at clauses i) m = subst (λ (n : ℕ). Contains (clause_at clauses n) m) same b.1.has in
            let k = has.0 in
            let e : at (clause_at clauses i) k ≡ m = get_or_default (clause_at clauses i) k _ m has.1 ∙ has.2 in
            clash (held V (negated m)) (subst (λ (x : Lit). held V (negated x) ≡ true) e (conflict.1 k has.1)) (held-consistent V m on),
        rest,
      )

  -- the false clause and the clauses that forced the trail are all different
  pub analysis_reads : (i : ℕ) → IsConflict clauses trail i → length (clause_at clauses i) + lengths_at clauses (reasons V trail.lits.items) ≤ squares clauses
  analysis_reads i conflict =
      let all' : (k : ℕ) → k < length trail.lits.items → held V (at trail.lits.items k) ≡ true = λ k lt. place_held clauses trail is k lt in
      reads_le clauses (i ∷ reasons V trail.lits.items) (
        conflict_apart i trail.lits.items conflict all',
        reasons_apart trail.lits.items all' (λ j k jk kl e.
            let s = places_differ clauses trail is j k (omega (arith, jk, kl)) kl (ap (λ (m : Lit). m.var) e) in omega (arith, s, jk)),
      )
