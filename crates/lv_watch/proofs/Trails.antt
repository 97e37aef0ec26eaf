-- The trail when a literal is made true, and when the clauses are permuted.
use Rattle.std.proofs.Common.{◌≡◌, ℕ, ◌<◌, ◌+◌, ◌≤◌, List, [], ◌∷◌, ◌++◌, inl, inr, refl, sym, ◌∙◌, ap, subst, length, get_or, set, Option, Some}
use Rattle.std.proofs.Common.{None, arith, length-append}
use Rattle.std.specs.List.{Contains}
use Rattle.std.proofs.lemmas.List.{get_or-set_same, get_or-set_other, length-set, get_or_append_left, get_or_default}
use Rattle.std.proofs.Math.Seq.{get_or-append_seam}
use Rattle.std.proofs.lemmas.List.Elements.{All-weaker, Contains-get_or, Contains-push, Contains-append_left}
use Rattle.std.proofs.lemmas.List.Sorted.{All-permutation, Contains-permutation, IsPermutation-refl, length_permutation}
use Rattle.std.specs.List.Sorted.{IsPermutation}
use Rattle.std.proofs.lemmas.Bool.{cases_eq, cases_lt}
use Rattle.lv_cnf.specs.declared.literal.Lit.{Lit}
use Rattle.lv_cnf.specs.Literals.{negated}
use Rattle.lv_cnf.specs.Packed.{at, clause_at}
use Rattle.lv_watch.specs.declared.trail.Assigned.{Assigned}
use Rattle.lv_watch.specs.declared.trail.Trail.{Trail}
use Rattle.lv_watch.specs.Values.{value, held, before, Extends}
use Rattle.lv_watch.specs.Lists.{Permutes}
use Rattle.lv_watch.specs.Trail.{start_at, Assigns, IsPast, Comes, IsTrail, HasTrail, Lengthens}
use Rattle.lv_watch.specs.Visit.{IsFalse, VisitIs}
use Rattle.lv_watch.specs.declared.visit.Visit.{Visit}
use Rattle.lv_watch.specs.declared.visit.Visit.TheVariants.{Unit as UnitAt}
use Rattle.lv_watch.proofs.Levels.{before-extends, before-held}

-- where a value comes from stays the same while the values below its place do
pub comes_same : (clauses : List (List Lit)) (old new : List (Option Assigned)) (starts : List ℕ) (l : Lit) (place : ℕ) (o : Option ℕ) →
    ((m : Lit) → before new place m ≡ before old place m) → Comes clauses old starts l place o → Comes clauses new starts l place o
comes_same clauses old new starts l place None same is = is
comes_same clauses old new starts l place (Some c) same is = record {
  there = is.there;
  has = is.has;
  others = All-weaker (IsPast old place l) (IsPast new place l)
      (λ m o. elim o [ inl e ↦ inl e | inr t ↦ inr (same (negated m) ∙ t) ]) (clause_at clauses c) is.others;
}

pub comes_more : (clauses : List (List Lit)) (values : List (Option Assigned)) (starts starts' : List ℕ) (l : Lit) (place : ℕ) (o : Option ℕ) →
    ((p : ℕ) → Contains starts p → Contains starts' p) → Comes clauses values starts l place o → Comes clauses values starts' l place o
comes_more clauses values starts starts' l place None more is = more place is
comes_more clauses values starts starts' l place (Some c) more is = is

comes_permuted : (old new : List (List Lit)) (values : List (Option Assigned)) (starts : List ℕ) (l : Lit) (place : ℕ) (o : Option ℕ) → Permutes old new →
    Comes old values starts l place o → Comes new values starts l place o
comes_permuted old new values starts l place None p is = is
comes_permuted old new values starts l place (Some c) p is = record {
  there = rw p.count is.there;
  has = Contains-permutation (clause_at old c) (clause_at new c) l (p.each c) is.has;
  others = All-permutation (IsPast values place l) (clause_at old c) (clause_at new c) (p.each c) is.others;
}

pub trail_permuted : (old new : List (List Lit)) (trail : Trail) → Permutes old new → HasTrail old trail → HasTrail new trail
trail_permuted old new trail p is = record {
  placed = is.placed;
  back = is.back;
  comes = λ v h e. comes_permuted old new trail.values.items trail.starts.items (record { var = v; positive = h.positive }) h.place h.reason p (is.comes v h e);
  rising = is.rising;
  inside = is.inside;
}

module _ (clauses : List (List Lit)) (values : List (Option Assigned)) (lits : List Lit) (starts : List ℕ) (l : Lit) (reason : Option ℕ)
    (in' : l.var < length values) (none : value values l.var ≡ None) where
  abbrev put : Assigned
  put = record { positive = l.positive; place = length lits; reason = reason }

  abbrev later : List (Option Assigned)
  later = set values l.var (Some put)

  here : value later l.var ≡ Some put
  here = get_or-set_same values l.var (Some put) None in'

  beside : (v : ℕ) → (v ≡ l.var → ⊥) → value later v ≡ value values v
  beside v ne = get_or-set_other values l.var v (Some put) None ne

  pub assigned_extends : Extends (length lits) values later
  assigned_extends = (
    length-set values l.var (Some put),
    λ v. elim (cases_eq v l.var) [
      | inl e ↦ inr (ap (value values) e ∙ none, put, ap (value later) e ∙ here, omega arith)
      | inr ne ↦ inl (beside v ne)
    ],
  )

  below_same : (j : ℕ) → j ≤ length lits → (m : Lit) → before later j m ≡ before values j m
  below_same j le m = before-extends (length lits) values later assigned_extends j le m

  pub put_at : (i : ℕ) → i < length lits → at (lits ++ l ∷ []) i ≡ at lits i
  put_at i lt = get_or_append_left lits (l ∷ []) _ i lt

  pub put_more : (starts' : List ℕ) → ((p : ℕ) → Contains starts p → Contains starts' p) →
      ((i j : ℕ) → i < j → j < length starts' → start_at starts' i < start_at starts' j) →
      ((i : ℕ) → i < length starts' → start_at starts' i < length lits + 1) →
      IsTrail clauses values lits starts → Comes clauses values starts' l (length lits) reason → IsTrail clauses later (lits ++ l ∷ []) starts'
  put_more starts' more rising inside is comes = let len = length-append lits (l ∷ []) in record {
    placed = λ i lt. elim (cases_lt i (length lits)) [
      | inl less ↦
          let p = is.placed i less in
          let ne : (at lits i).var ≡ l.var → ⊥ = λ e. let z : value values (at lits i).var ≡ None = ap (value values) e ∙ none in
          let y = p.1 in cc in
          rw (put_at i less) (p.0, beside (at lits i).var ne ∙ p.1, p.2, p.3)
      | inr more ↦
          let last : i ≡ length lits = omega (arith, len) in
          let seam : at (lits ++ l ∷ []) i ≡ l = ap (at (lits ++ l ∷ [])) last ∙ get_or-append_seam lits l [] _ in
          rw seam (put, here, refl, sym last)
    ];
    back = λ v h e. elim (cases_eq v l.var) [
      | inl same ↦
          let is' : Some put ≡ Some h = sym here ∙ ap (value later) (sym same) ∙ e in
          let hp : put ≡ h = cc in
          subst (λ (k : Assigned). (k.place < length (lits ++ l ∷ [])) × (at (lits ++ l ∷ []) k.place ≡ record { var = v; positive = k.positive })) hp
          (omega (arith, len), get_or-append_seam lits l [] _ ∙ ap (λ (n : ℕ). record { var = n; positive = l.positive }) (sym same))
      | inr ne ↦
          let b = is.back v h (sym (beside v ne) ∙ e) in
          (omega (arith, len, b.0), put_at h.place b.0 ∙ b.1)
    ];
    comes = λ v h e. elim (cases_eq v l.var) [
      | inl same ↦
          let is' : Some put ≡ Some h = sym here ∙ ap (value later) (sym same) ∙ e in
          let hp : put ≡ h = cc in
          subst (λ (k : Assigned). Comes clauses later starts' (record { var = v; positive = k.positive }) k.place k.reason) hp
          (subst (λ (n : ℕ). Comes clauses later starts' (record { var = n; positive = l.positive }) (length lits) reason) (sym same)
          (comes_same clauses values later starts' l (length lits) reason (below_same (length lits) (omega arith)) comes))
      | inr ne ↦
          let was = sym (beside v ne) ∙ e in
          let b = is.back v h was in
          comes_same clauses values later starts' (record { var = v; positive = h.positive }) h.place h.reason
          (below_same h.place (omega (arith, b.0))) (comes_more clauses values starts starts' (record { var = v; positive = h.positive }) h.place
          h.reason more (is.comes v h was))
    ];
    rising = rising;
    inside = λ i lt. let a = inside i lt in omega (arith, len, a);
  }

  pub put_trail : IsTrail clauses values lits starts → Comes clauses values starts l (length lits) reason → IsTrail clauses later (lits ++ l ∷ []) starts
  put_trail is comes = put_more starts (λ p c. c) is.rising (λ i lt. let a = is.inside i lt in omega (arith, a)) is comes

  -- with a decision there
  pub assigned_decided : reason ≡ None → IsTrail clauses values lits starts → IsTrail clauses later (lits ++ l ∷ []) (starts ++ length lits ∷ [])
  assigned_decided none' is =
      let n = length lits in
      let len = length-append starts (n ∷ []) in
      let old_at : (i : ℕ) → i < length starts → start_at (starts ++ n ∷ []) i ≡ start_at starts i = λ i lt. get_or_append_left starts (n ∷ []) 0 i lt in
      let new_at : start_at (starts ++ n ∷ []) (length starts) ≡ n = get_or-append_seam starts n [] 0 in
      put_more (starts ++ n ∷ []) (λ p c. Contains-append_left starts (n ∷ []) p c)
      (λ i j ij jl. elim (cases_lt j (length starts)) [
        | inl less ↦ let a = old_at i (omega (arith, ij, less)) in let b = old_at j less in let r = is.rising i j ij less in omega (arith, a, b, r)
        | inr more ↦
            let last : j ≡ length starts = omega (arith, len, jl, more) in
            let il : i < length starts = omega (arith, ij, last) in
            let a = old_at i il in let b = ap (start_at (starts ++ n ∷ [])) last in let r = is.inside i il in omega (arith, a, b, new_at, r)
      ])
      (λ i lt. elim (cases_lt i (length starts)) [
        | inl less ↦ let a = old_at i less in let r = is.inside i less in omega (arith, a, r)
        | inr more ↦ let last : i ≡ length starts = omega (arith, len, lt, more) in let b = ap (start_at (starts ++ n ∷ [])) last in omega (arith, b, new_at)
      ])
      is (subst (Comes clauses values (starts ++ n ∷ []) l n) (sym none') (Contains-push starts n))

pub lengthens_none : (trail : Trail) → Lengthens trail trail
lengthens_none trail = record { extends = (refl, λ v. inl refl); starts = refl; longer = omega arith; same = λ i lt. refl }

extends_more : (a b : ℕ) (first old new : List (Option Assigned)) → a ≤ b → Extends a first old → Extends b old new → Extends a first new
extends_more a b first old new le one two = (
  two.0 ∙ one.0,
  λ v. elim (two.1 v) [
    | inl e ↦ elim (one.1 v) [
      | inl f ↦ inl (e ∙ f)
      | inr (was, h, is, at') ↦ inr (was, h, e ∙ is, at')
    ]
    | inr (was, h, is, at') ↦ elim (one.1 v) [
      | inl f ↦ inr (sym f ∙ was, h, is, omega arith)
      | inr (was', g, is', at'') ↦ let z : Some g ≡ None = sym is' ∙ was in cc
    ]
  ],
)

-- one more literal is made true
pub assigns_trail : (clauses : List (List Lit)) (old new : Trail) (l : Lit) (reason : Option ℕ) → Assigns old new l reason → l.var < length old.values.items →
    value old.values.items l.var ≡ None → HasTrail clauses old → Comes clauses old.values.items old.starts.items l (length old.lits.items) reason →
    HasTrail clauses new
assigns_trail clauses old new l reason p in' none is comes =
    rw (p.values, p.lits, p.starts) (put_trail clauses old.values.items old.lits.items old.starts.items l reason in' none is comes)

pub lengthens_more : (first old new : Trail) (l : Lit) (reason : Option ℕ) → Assigns old new l reason → l.var < length old.values.items →
    value old.values.items l.var ≡ None → Lengthens first old → Lengthens first new
lengthens_more first old new l reason p in' none so =
    let len = length-append old.lits.items (l ∷ []) in
    let more : length new.lits.items ≡ length old.lits.items + 1 = ap length p.lits ∙ len in
    let le = so.longer in
    record {
      extends = rw p.values (extends_more (length first.lits.items) (length old.lits.items) first.values.items old.values.items _ le so.extends
          (assigned_extends [] old.values.items old.lits.items [] l reason in' none));
      starts = p.starts ∙ so.starts;
      longer = omega (arith, more, le);
      same = λ i lt. ap (λ (xs : List Lit). at xs i) p.lits ∙ put_at [] old.values.items old.lits.items [] l reason in' none i (omega (arith, le)) ∙
          so.same i lt;
    }

-- the trail's places are all below its end
pub held_before : (clauses : List (List Lit)) (values : List (Option Assigned)) (lits : List Lit) (starts : List ℕ) → IsTrail clauses values lits starts →
    (l : Lit) → before values (length lits) l ≡ held values l
held_before clauses values lits starts is l = before-held values (length lits) (λ v h e. (is.back v h e).0) l

-- a clause whose literals but the first are false is a reason for the first
pub unit_reason : (clauses : List (List Lit)) (trail : Trail) (c : ℕ) (l : Lit) → HasTrail clauses trail → c < length clauses →
    1 ≤ length (clause_at clauses c) → at (clause_at clauses c) 0 ≡ l →
    ((k : ℕ) → 1 ≤ k → k < length (clause_at clauses c) → IsFalse trail.values.items (at (clause_at clauses c) k)) →
    Comes clauses trail.values.items trail.starts.items l (length trail.lits.items) (Some c)
unit_reason clauses trail c l is there one first others =
    let lits = clause_at clauses c in
    let values = trail.values.items in
    let end = length trail.lits.items in
    record {
      there = there;
      has = subst (Contains lits) first (Contains-get_or lits 0 _ (omega arith));
      others = λ k d lt. elim (cases_eq k 0) [
        | inl e ↦ inl (ap (λ (n : ℕ). get_or lits n d) e ∙ get_or_default lits 0 d _ (omega arith) ∙ first)
        | inr ne ↦ inr (ap (λ (m : Lit). before values end (negated m)) (get_or_default lits k d _ lt)
            ∙ held_before clauses values trail.lits.items trail.starts.items is (negated (at lits k)) ∙ others k (omega (arith, ne)) lt)
      ];
    }

pub visit_permutes : (old new : List (List Lit)) (values : List (Option Assigned)) (i : ℕ) (gone : Lit) (outcome : Visit) →
    VisitIs old new values i gone outcome →
    Permutes old new
visit_permutes old new values i gone outcome visit = record {
  count = visit.count;
  each = λ j. elim (cases_eq j i) [
    | inl is ↦ subst (λ (n : ℕ). IsPermutation (clause_at old n) (clause_at new n)) (sym is) visit.permuted
    | inr ne ↦ subst (IsPermutation (clause_at old j)) (sym (visit.others j ne)) (IsPermutation-refl (clause_at old j))
  ];
}

-- the literal of a unit that was looked at is made true
pub visit_unit : (old new : List (List Lit)) (trail later : Trail) (i : ℕ) (gone l : Lit) → VisitIs old new trail.values.items i gone (UnitAt l) →
    i < length old → 2 ≤ length (clause_at old i) → l.var < length trail.values.items → HasTrail old trail → Assigns trail later l (Some i) → HasTrail new later
visit_unit old new trail later i gone l visit there two in' is p =
    let len = length_permutation (clause_at old i) (clause_at new i) visit.permuted in
    let is' = trail_permuted old new trail (visit_permutes old new trail.values.items i gone (UnitAt l) visit) is in
    assigns_trail new trail later l (Some i) p in' visit.outcome_is.2 is'
    (unit_reason new trail i l is' (rw visit.count there) (omega (arith, len)) visit.outcome_is.0 visit.outcome_is.3)

pub lengthens_trans : (first old new : Trail) → Lengthens first old → Lengthens old new → Lengthens first new
lengthens_trans first old new a b =
    let x = a.longer in
    let y = b.longer in
    record {
      extends = extends_more (length first.lits.items) (length old.lits.items) first.values.items old.values.items new.values.items x a.extends b.extends;
      starts = b.starts ∙ a.starts;
      longer = omega (arith, x, y);
      same = λ i lt. b.same i (omega (arith, x)) ∙ a.same i lt;
    }
