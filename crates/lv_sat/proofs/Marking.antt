-- Marks grow.
use Rattle.std.proofs.Common.{◌≡◌, ℕ, ◌<◌, ◌+◌, true, List, inl, inr, refl, sym, ◌∙◌, ap, subst, length, Some, arith}
use Rattle.std.proofs.lemmas.List.{get_or_default}
use Rattle.std.proofs.lemmas.Bool.{cases_lt}
use Rattle.lv_cnf.specs.declared.literal.Lit.{Lit}
use Rattle.lv_cnf.specs.Packed.{at}
use Rattle.lv_watch.specs.declared.trail.Assigned.{Assigned}
use Rattle.lv_watch.specs.declared.trail.Trail.{Trail}
use Rattle.lv_watch.specs.Values.{FalseAt}
use Rattle.lv_watch.specs.Trail.{HasTrail}
use Rattle.lv_sat.specs.declared.analysis.Analysis.{Analysis}
use Rattle.lv_sat.specs.Analysis.{mark_at, Extends, MarksPlace, IsCovered, Marks}

pub extends_none : (a : Analysis) → Extends a a
extends_none a = record { size = refl; first = refl; start = refl; more = λ i e. e; lower = omega arith; marking = λ m. m }

pub extends_trans : (a b c : Analysis) → Extends a b → Extends b c → Extends a c
extends_trans a b c x y = record {
  size = y.size ∙ x.size;
  first = y.first ∙ x.first;
  start = y.start ∙ x.start;
  more = λ i e. y.more i (x.more i e);
  lower = let p = x.lower in let q = y.lower in omega (arith, p, q);
  marking = λ m. y.marking (x.marking m);
}

pub covered_more : (a b : Analysis) (trail : Trail) (m : Lit) → Extends a b → IsCovered a trail m → IsCovered b trail m
covered_more a b trail m x cov i f le = x.more i (cov i f (let e = x.first in omega (arith, e, le)))

pub false_inside : (clauses : List (List Lit)) (trail : Trail) (m : Lit) (place : ℕ) → HasTrail clauses trail → FalseAt trail.values.items m place →
    place < length trail.lits.items
false_inside clauses trail m place is f = let b = is.back m.var f.0 f.1 in let e = f.3 in let lt = b.0 in omega (arith, e, lt)

-- a false literal is so by one place
pub false_once : (trail : Trail) (m : Lit) (i j : ℕ) → FalseAt trail.values.items m i → FalseAt trail.values.items m j → i ≡ j
false_once trail m i j a b =
    let s : Some a.0 ≡ Some b.0 = sym a.1 ∙ b.1 in
    let same : a.0 ≡ b.0 = cc in
    sym a.3 ∙ ap (λ (h : Assigned). h.place) same ∙ b.3

-- the place of a false literal is marked
pub covered_here : (a b : Analysis) (trail : Trail) (m : Lit) (place : ℕ) → MarksPlace a b place → FalseAt trail.values.items m place → IsCovered b trail m
covered_here a b trail m place x f i g le =
    let e = false_once trail m i place g f in
    subst (λ (n : ℕ). mark_at b.marks.items n ≡ true) (sym e) (x.here (omega (arith, e, le)))

-- so far
abbrev pub CoversBelow : Analysis → Trail → List Lit → ℕ → Type 0
CoversBelow a trail lits place = (k : ℕ) → k < place → IsCovered a trail (at lits k)

pub covers_more : (a b : Analysis) (trail : Trail) (lits : List Lit) (place : ℕ) → Extends a b → IsCovered b trail (at lits place) →
    CoversBelow a trail lits place →
    CoversBelow b trail lits (place + 1)
covers_more a b trail lits place x here below k lt = elim (cases_lt k place) [
  | inl less ↦ covered_more a b trail (at lits k) x (below k less)
  | inr past ↦ let e : place ≡ k = omega (arith, lt, past) in subst (λ (n : ℕ). IsCovered b trail (at lits n)) e here
]

pub covers_all : (a b : Analysis) (trail : Trail) (lits : List Lit) → Extends a b → CoversBelow b trail lits (length lits) → Marks a b trail lits
covers_all a b trail lits x below = record {
  extends = x;
  covers = λ k d lt. subst (IsCovered b trail) (get_or_default lits k _ d lt) (below k lt);
}
