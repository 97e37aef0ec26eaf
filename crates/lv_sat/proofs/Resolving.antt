-- Resolving from a conflict.
use Rattle.std.proofs.Common.{◌≡◌, ℕ, zero, suc, ◌+◌, ◌<◌, ◌≤◌, Bool, true, false, cond, List, [], ◌∷◌, ◌⊎◌, inl, inr, refl, sym, ◌∙◌, ap, subst}
use Rattle.std.proofs.Common.{length, get_or, Option, Some, None, drop, arith}
use Rattle.std.specs.List.{All, Contains}
use Rattle.std.proofs.lemmas.List.{get_or_default}
use Rattle.std.proofs.lemmas.List.Elements.{All-contains, All-weaker, Contains-get_or}
use Rattle.std.proofs.lemmas.Bool.{cases_lt, lt-ltb, le-ltb}
use Rattle.lv_cnf.specs.declared.literal.Lit.{Lit}
use Rattle.lv_cnf.specs.Literals.{negated, signed}
use Rattle.lv_cnf.specs.Propagation.{IsSettled, Follows}
use Rattle.lv_cnf.proofs.Logic.{forced_unit, no_conflict, clash}
use Rattle.lv_cnf.specs.Packed.{at, clause_at}
use Rattle.lv_watch.specs.declared.trail.Assigned.{Assigned}
use Rattle.lv_watch.specs.declared.trail.Trail.{Trail}
use Rattle.lv_watch.specs.Values.{value, is_held, held, before, reason_of}
use Rattle.lv_watch.specs.Trail.{IsReason, Comes, HasTrail}
use Rattle.lv_watch.specs.Lists.{lengths_at}
use Rattle.lv_propagate.specs.State.{IsConflict, Given}
use Rattle.lv_watch.proofs.Levels.{same_signs, opposite, before_is, before_at, held_is}
use Rattle.lv_watch.proofs.Trails.{held_before}
use Rattle.lv_propagate.proofs.Given.{given_below}
use Rattle.lv_sat.specs.declared.analysis.Analysis.{Analysis}
use Rattle.lv_sat.specs.Analysis.{mark_at, chosen, marked, IsMarking, Extends, IsCovered, Marks, IsOfTrail, Refutes, Resolves, reasons, cons_reason}
use Rattle.lv_sat.proofs.Marking.{extends_none, extends_trans}

pub conflict_marked : (clauses : List (List Lit)) (base marked : Lit → Bool) (clause : List Lit) → Given clauses base → Contains clauses clause →
    All (λ m. (marked (negated m) ≡ true) ⊎ (base (negated m) ≡ true)) clause → Refutes clauses marked
conflict_marked clauses base marked clause given in' all' s con set' has =
    no_conflict s clause con
    (All-weaker (λ m. (marked (negated m) ≡ true) ⊎ (base (negated m) ≡ true)) (λ m. s (negated m) ≡ true)
    (λ m o. elim o [ inl a ↦ has (negated m) a | inr b ↦ given s con set' (negated m) b ]) clause all')
    (All-contains (IsSettled s) clauses clause set' in')

-- the marked literal p gives way to the other literals of its reason
pub resolved : (clauses : List (List Lit)) (base marked marked' : Lit → Bool) (p : Lit) (reason : List Lit) → Given clauses base → Contains clauses reason →
    All (λ m. (m ≡ p) ⊎ ((marked' (negated m) ≡ true) ⊎ (base (negated m) ≡ true))) reason →
    ((l : Lit) → marked l ≡ true → (l ≡ p) ⊎ (marked' l ≡ true)) → Refutes clauses marked → Refutes clauses marked'
resolved clauses base marked marked' p reason given in' all' rest ref s con set' has =
    let P : Lit → Type 0 = λ m. (m ≡ p) ⊎ ((marked' (negated m) ≡ true) ⊎ (base (negated m) ≡ true)) in
    let Q : Lit → Type 0 = λ m. (m ≡ p) ⊎ (s (negated m) ≡ true) in
    let sp : s p ≡ true = forced_unit s reason p con
    (All-weaker P Q (λ m o. elim o [
      | inl e ↦ inl e
      | inr r ↦ inr (elim r [ inl a ↦ has (negated m) a | inr b ↦ given s con set' (negated m) b ])
    ]) reason all')
    (All-contains (IsSettled s) clauses reason set' in') in
    ref s con set' (λ l m. elim (rest l m) [ inl e ↦ ap s e ∙ sp | inr k ↦ has l k ])

-- the clause of the negations of what is still marked follows
pub learned_follows : (clauses : List (List Lit)) (marked : Lit → Bool) (clause : List Lit) → Refutes clauses marked →
    ((l : Lit) → marked l ≡ true → (m : Lit) × Contains clause m × (negated m ≡ l)) → Follows clauses clause
learned_follows clauses marked clause ref all' s con den set' =
    ref s con set' (λ l m. let a = all' l m in
    ap s (sym a.2) ∙ All-contains (λ x. s (negated x) ≡ true) clause a.0 den a.1)

-- ---- what is marked

chosen_is : (marks : List Bool) (limit : ℕ) (o : Option Assigned) (h : Assigned) → chosen marks limit o ≡ Some h → (o ≡ Some h) × (h.place < limit) ×
    (mark_at marks h.place ≡ true)
chosen_is marks limit None h e = cc
chosen_is marks limit (Some g) h e = elim (cases_lt g.place limit) [
  | inl lt ↦
      let a : cond (mark_at marks g.place) (Some g) None ≡ Some h = sym
      (ap (λ (b : Bool). cond b (cond (mark_at marks g.place) (Some g) None) None) (lt-ltb g.place limit lt)) ∙ e in
      go (mark_at marks g.place) refl lt a
  | inr le ↦ let none : None ≡ Some h = sym (ap (λ (b : Bool). cond b (cond (mark_at marks g.place) (Some g) None) None) (le-ltb g.place limit le)) ∙ e in cc
]
  where
    go : (b : Bool) → mark_at marks g.place ≡ b → g.place < limit → cond b (Some g) None ≡ Some h → (Some g ≡ Some h) × (h.place < limit) ×
        (mark_at marks h.place ≡ true)
    go true m lt same = let is : g ≡ h = cc in (
      same,
      subst (λ (x : Assigned). x.place < limit) is lt,
      subst
          (λ (x : Assigned). mark_at marks x.place ≡ true) is m,
    )
    go false m lt same = cc

pub marked_is : (values : List (Option Assigned)) (marks : List Bool) (limit : ℕ) (l : Lit) → marked values marks limit l ≡ true →
    (h : Assigned) × (value values l.var ≡ Some h) × (h.place < limit) × (mark_at marks h.place ≡ true) × (signed l.positive h.positive ≡ true)
marked_is values marks limit l e =
    let a = held_is l.positive (chosen marks limit (value values l.var)) e in
    let b = chosen_is marks limit (value values l.var) a.0 a.1 in
    (a.0, b.0, b.1, b.2, a.2)

pub marked_at : (values : List (Option Assigned)) (marks : List Bool) (limit : ℕ) (l : Lit) (h : Assigned) → value values l.var ≡ Some h → h.place < limit →
    mark_at marks h.place ≡ true → signed l.positive h.positive ≡ true → marked values marks limit l ≡ true
marked_at values marks limit l h is lt mark same =
    ap (λ (o : Option Assigned). is_held l.positive (chosen marks limit o)) is
    ∙ ap (λ (b : Bool). is_held l.positive (cond b (cond (mark_at marks h.place) (Some h) None) None)) (lt-ltb h.place limit lt)
    ∙ ap (λ (b : Bool). is_held l.positive (cond b (Some h) None)) mark ∙ same

-- a false literal is marked, or false whatever is decided
pub covered_marked : (a : Analysis) (trail : Trail) (limit : ℕ) (m : Lit) → IsCovered a trail m → before trail.values.items limit (negated m) ≡ true →
    (marked trail.values.items a.marks.items limit (negated m) ≡ true) ⊎ (before trail.values.items a.first (negated m) ≡ true)
covered_marked a trail limit m cov e =
    let b = before_is trail.values.items limit (negated m) e in
    elim (cases_lt b.0.place a.first) [
      | inl low ↦ inr (before_at trail.values.items a.first (negated m) b.0 b.1 low b.3)
      | inr high ↦ inl (marked_at trail.values.items a.marks.items limit (negated m) b.0 b.1 b.2
          (cov b.0.place (b.0, b.1, opposite m.positive b.0.positive b.3, refl) high) b.3)
    ]

-- the clause that came out false starts the marks
pub conflict_refutes : (clauses : List (List Lit)) (trail : Trail) (old a : Analysis) (i : ℕ) → IsOfTrail clauses trail a → IsConflict clauses trail i →
    Marks old a trail (clause_at clauses i) → Refutes clauses (marked trail.values.items a.marks.items (length trail.lits.items))
conflict_refutes clauses trail old a i of_trail conflict marks =
    conflict_marked clauses (before trail.values.items a.first) (marked trail.values.items a.marks.items (length trail.lits.items)) (clause_at clauses i)
    (given_below clauses trail of_trail.sound a.first of_trail.first) (Contains-get_or clauses i [] conflict.0)
    (λ k d lt. covered_marked a trail (length trail.lits.items) (get_or (clause_at clauses i) k d) (marks.covers k d lt)
    (held_before clauses trail.values.items trail.lits.items trail.starts.items of_trail.sound (negated (get_or (clause_at clauses i) k d))
    ∙ ap (λ (m : Lit). held trail.values.items (negated m)) (get_or_default (clause_at clauses i) k d _ lt) ∙ conflict.1 k lt))

-- what is marked below place + 1 is the literal there, or marked below
module _ (clauses : List (List Lit)) (trail : Trail) (old a : Analysis) (place : ℕ) (is : HasTrail clauses trail)
    (inside : place < length trail.lits.items) (x : Extends old a) where
  abbrev V : List (Option Assigned)
  V = trail.values.items

  pub marked_step : (l : Lit) → marked V old.marks.items (place + 1) l ≡ true →
      ((l ≡ at trail.lits.items place) × (mark_at old.marks.items place ≡ true)) ⊎ (marked V a.marks.items place l ≡ true)
  marked_step l e =
      let m = marked_is V old.marks.items (place + 1) l e in
      elim (cases_lt m.0.place place) [
        | inl less ↦ inr (marked_at V a.marks.items place l m.0 m.1 less (x.more m.0.place m.3) m.4)
        | inr more ↦
            let last : m.0.place ≡ place = let lt = m.2 in omega (arith, lt, more) in
            let make : Bool → Lit = λ b. record { var = l.var; positive = b } in
            let back = is.back l.var m.0 m.1 in
            inl (ap make (same_signs l.positive m.0.positive m.4) ∙ sym back.1 ∙ ap (at trail.lits.items) last, ap (mark_at old.marks.items) (sym last) ∙ m.3)
      ]

  -- a place that is not marked
  pub refutes_skip : mark_at old.marks.items place ≡ false → Refutes clauses (marked V old.marks.items (place + 1)) →
      Refutes clauses (marked V a.marks.items place)
  refutes_skip off ref s con set' has = ref s con set' (λ l e. elim (marked_step l e) [
    | inl p ↦ absurd (clash (mark_at old.marks.items place) p.1 off)
    | inr m ↦ has l m
  ])

  -- a marked place gives way to the clause that forced its literal
  pub refutes_resolved : (c : ℕ) → (p : ℕ) → p ≡ place → IsReason clauses V (at trail.lits.items place) p c →
      ((q : ℕ) → Contains trail.starts.items q → a.first ≤ q) →
      Marks old a trail (clause_at clauses c) → Refutes clauses (marked V old.marks.items (place + 1)) → Refutes clauses (marked V a.marks.items place)
  refutes_resolved c p same reason first marks ref =
      resolved clauses (before V a.first) (marked V old.marks.items (place + 1)) (marked V a.marks.items place) (at trail.lits.items place)
      (clause_at clauses c)
      (given_below clauses trail is a.first first) (Contains-get_or clauses c [] reason.there)
      (λ k d lt. elim (reason.others k d lt) [
        | inl e ↦ inl e
        | inr b ↦ inr (covered_marked a trail place (get_or (clause_at clauses c) k d) (marks.covers k d lt)
            (subst (λ (n : ℕ). before V n (negated (get_or (clause_at clauses c) k d)) ≡ true) same b))
      ])
      (λ l e. elim (marked_step l e) [ inl q ↦ inl q.0 | inr m ↦ inr m ])
      ref

-- ---- the walk down the trail

pub cut_extends : (clauses : List (List Lit)) (trail : Trail) (old new : Analysis) → Extends old new → IsOfTrail clauses trail old → IsOfTrail clauses trail new
cut_extends clauses trail old new x is = record {
  sound = is.sound;
  range = is.range;
  size = x.size ∙ is.size;
  first = λ p has. let a = is.first p has in let b = x.first in omega (arith, a, b);
  last = λ p has. let a = is.last p has in let b = x.start in omega (arith, a, b);
  there = subst (Contains trail.starts.items) (sym x.start) is.there;
}

-- the marks below limit are still to be resolved, and `read` literals were read
pub record Walks (clauses : List (List Lit)) (trail : Trail) (first now : Analysis) (place base read : ℕ) : Type 0 where
  pub extends : Extends first now
  pub inside : place < length trail.lits.items
  pub lowest_le : now.lowest ≤ place
  pub refutes : Refutes clauses (marked trail.values.items now.marks.items (place + 1))
  pub cost : read ≤ base + lengths_at clauses (reasons trail.values.items (drop (place + 1) trail.lits.items))

reasons_down : (clauses : List (List Lit)) (trail : Trail) (place : ℕ) → place < length trail.lits.items →
    lengths_at clauses (reasons trail.values.items (drop place trail.lits.items))
    ≡ lengths_at clauses (cons_reason (reason_of (value trail.values.items (at trail.lits.items place).var))
    (reasons trail.values.items (drop (place + 1) trail.lits.items)))
reasons_down clauses trail place lt = ap (λ (ls : List Lit). lengths_at clauses (reasons trail.values.items ls)) (drop_at_place trail.lits.items place lt)
  where
    drop_at_place : (ls : List Lit) (i : ℕ) → i < length ls → drop i ls ≡ at ls i ∷ drop (i + 1) ls
    drop_at_place [] i lt = absurd (omega arith)
    drop_at_place (l ∷ ls) zero lt = refl
    drop_at_place (l ∷ ls) (suc i) lt = let e : suc i + 1 ≡ suc (i + 1) = omega arith in rw e (drop_at_place ls i (omega (arith, lt)))

pub reasons_all : (clauses : List (List Lit)) (values : List (Option Assigned)) (ls : List Lit) (i : ℕ) →
    lengths_at clauses (reasons values (drop i ls)) ≤ lengths_at clauses (reasons values ls)
reasons_all clauses values ls zero = omega arith
reasons_all clauses values [] (suc i) = omega arith
reasons_all clauses values (l ∷ ls) (suc i) = let a = reasons_all clauses values ls i in
    let b = cons_le (reason_of (value values l.var)) (reasons values ls) in omega (arith, a, b)
  where
    cons_le : (o : Option ℕ) (xs : List ℕ) → lengths_at clauses xs ≤ lengths_at clauses (cons_reason o xs)
    cons_le None xs = omega arith
    cons_le (Some c) xs = omega arith

module _ (clauses : List (List Lit)) (trail : Trail) (first now : Analysis) (place base read : ℕ) (of_trail : IsOfTrail clauses trail first)
    (marking : IsMarking first)
    (is : Walks clauses trail first now place base read) (above : now.lowest < place) where
  now_cut : IsOfTrail clauses trail now
  now_cut = cut_extends clauses trail first now is.extends of_trail

  now_low : (now.start ≤ now.lowest) × (mark_at now.marks.items now.lowest ≡ true)
  now_low = (is.extends.marking marking).lowest (let a = now_cut.size in let b = is.inside in omega (arith, a, b, above))

  -- a place that is not marked is passed
  pub walk_skip : mark_at now.marks.items place ≡ false → (j : ℕ) → j + 1 ≡ place → Walks clauses trail first now j base read
  walk_skip off j next =
      let a = is.inside in
      let cost = is.cost in
      let down = reasons_down clauses trail place is.inside in
      let more = cons_more (reason_of (value trail.values.items (at trail.lits.items place).var)) in
      record {
        extends = is.extends;
        inside = omega (arith, a, next);
        lowest_le = omega (arith, above, next);
        refutes = rw next (refutes_skip clauses trail now now place now_cut.sound is.inside (extends_none now) off is.refutes);
        cost = rw next (omega (arith, cost, down, more));
      }
    where
      cons_more : (o : Option ℕ) → lengths_at clauses (reasons trail.values.items (drop (place + 1) trail.lits.items))
          ≤ lengths_at clauses (cons_reason o (reasons trail.values.items (drop (place + 1) trail.lits.items)))
      cons_more None = omega arith
      cons_more (Some c) = omega arith

  -- the literal there is no decision
  pub walk_reason : (o : Option ℕ) → o ≡ reason_of (value trail.values.items (at trail.lits.items place).var) → (c : ℕ) × (o ≡ Some c) ×
      IsReason clauses trail.values.items (at trail.lits.items place) place c
  walk_reason o e =
      let h = now_cut.sound.placed place is.inside in
      let l = at trail.lits.items place in
      let make : Bool → Lit = λ b. record { var = l.var; positive = b } in
      let comes : Comes clauses trail.values.items trail.starts.items l place h.0.reason =
      subst (λ (n : ℕ). Comes clauses trail.values.items trail.starts.items l n h.0.reason) h.3
      (subst (λ (m : Lit). Comes clauses trail.values.items trail.starts.items m h.0.place h.0.reason) (ap make h.2) (now_cut.sound.comes l.var h.0 h.1)) in
      let same : o ≡ h.0.reason = e ∙ ap reason_of h.1 in
      go h.0.reason comes same
    where
      go : (r : Option ℕ) → Comes clauses trail.values.items trail.starts.items (at trail.lits.items place) place r → o ≡ r →
          (c : ℕ) × (o ≡ Some c) × IsReason clauses trail.values.items (at trail.lits.items place) place c
      go None start e = let a = now_cut.last place start in let b = now_low.0 in absurd (omega (arith, a, b, above))
      go (Some c) reason e = (c, e, reason)

  pub walk_resolve : (new : Analysis) (c j read' : ℕ) → reason_of (value trail.values.items (at trail.lits.items place).var) ≡ Some c →
      IsReason clauses trail.values.items (at trail.lits.items place) place c → Marks now new trail (clause_at clauses c) →
      read' ≤ read + length (clause_at clauses c) → j + 1 ≡ place → Walks clauses trail first new j base read'
  walk_resolve new c j read' e reason marks cost' next =
      let a = is.inside in
      let lower = marks.extends.lower in
      let cost = is.cost in
      let down = reasons_down clauses trail place is.inside in
      let here = ap (λ (o : Option ℕ). lengths_at clauses (cons_reason o (reasons trail.values.items (drop (place + 1) trail.lits.items)))) e in
      record {
        extends = extends_trans first now new is.extends marks.extends;
        inside = omega (arith, a, next);
        lowest_le = omega (arith, above, next, lower);
        refutes = rw next (refutes_resolved clauses trail now new place now_cut.sound is.inside marks.extends c place refl reason
            (λ q has. let x = now_cut.first q has in let y = marks.extends.first in omega (arith, x, y)) marks is.refutes);
        cost = rw next (omega (arith, cost, down, here, cost'));
      }

pub walk_end : (clauses : List (List Lit)) (trail : Trail) (first now : Analysis) (place base read : ℕ) → IsOfTrail clauses trail first → IsMarking first →
    Walks clauses trail first now place base read → place ≤ now.lowest → Resolves clauses trail now
walk_end clauses trail first now place base read of_trail marking is le =
    let e : place ≡ now.lowest = let a = is.lowest_le in omega (arith, a, le) in
    record {
      of_trail = cut_extends clauses trail first now is.extends of_trail;
      marking = is.extends.marking marking;
      lowest = let a = is.inside in omega (arith, a, e);
      refutes = rw (← e) is.refutes;
    }

pub walk_begin : (clauses : List (List Lit)) (trail : Trail) (first : Analysis) (place base : ℕ) → first.lowest < length trail.lits.items →
    place + 1 ≡ length trail.lits.items → Refutes clauses (marked trail.values.items first.marks.items (length trail.lits.items)) →
    Walks clauses trail first first place base base
walk_begin clauses trail first place base low last ref = record {
  extends = extends_none first;
  inside = omega (arith, last);
  lowest_le = omega (arith, low, last);
  refutes = rw last ref;
  cost = omega arith;
}
