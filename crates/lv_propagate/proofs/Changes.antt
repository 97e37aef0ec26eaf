-- A decision, taking decisions back, and a further clause.
use Rattle.std.proofs.Common.{◌≡◌, ℕ, ◌<◌, ◌≤◌, Bool, true, List, [], ◌∷◌, ◌++◌, ◌⊎◌, inl, inr, refl, sym, ◌∙◌, ap, subst, length, set, Option, Some}
use Rattle.std.proofs.Common.{None, arith, length-append, length-set}
use Rattle.std.specs.List.{Contains}
use Rattle.std.proofs.lemmas.List.{get_or-take, length-take-le, length-map}
use Rattle.std.proofs.lemmas.List.Elements.{Contains-get_or, Contains-push_cases}
use Rattle.std.proofs.lemmas.Bool.{cases_eq, cases_lt}
use Rattle.lv_cnf.specs.declared.literal.Lit.{Lit}
use Rattle.lv_cnf.specs.Packed.{at, clause_at}
use Rattle.lv_watch.specs.declared.trail.Assigned.{Assigned}
use Rattle.lv_watch.specs.declared.trail.Trail.{Trail}
use Rattle.lv_watch.specs.Values.{value, is_held, held, before, keeps, Extends}
use Rattle.lv_watch.specs.Lists.{AllPairs, Within}
use Rattle.lv_watch.specs.Trail.{start_at, Comes, HasTrail, BackjumpsTo}
use Rattle.lv_watch.specs.Watching.{IsWatching}
use Rattle.lv_propagate.specs.State.{IsDone}
use Rattle.lv_watch.proofs.Levels.{keeps_lt, kept_is, before-extends, before-map, value-map}
use Rattle.lv_watch.proofs.Index.{at_place}
use Rattle.lv_watch.proofs.Trails.{assigned_extends, assigned_decided, comes_same, held_before}
use Rattle.lv_watch.proofs.Watching.{AllPairs-same}
use Rattle.lv_watch.proofs.Places.{before_within}

pub AllPairs-more : (s t t' : Lit → Bool) (clauses : List (List Lit)) → Within t t' → AllPairs s t clauses → AllPairs s t' clauses
AllPairs-more s t t' clauses w pairs i lt two =
    let p = pairs i lt two in
    (λ e. w (at (clause_at clauses i) 1) (p.0 e), λ e. w (at (clause_at clauses i) 0) (p.1 e))

-- ---- a decision

module _ (clauses : List (List Lit)) (lists : List (List ℕ)) (old new : Trail) (l : Lit) (is : IsWatching clauses lists old)
    (done : IsDone clauses old (length old.lits.items)) (in' : l.var < length old.values.items) (none : value old.values.items l.var ≡ None)
    (values_is : new.values.items ≡ set old.values.items l.var (Some (record { positive = l.positive; place = length old.lits.items; reason = None })))
    (lits_is : new.lits.items ≡ old.lits.items ++ l ∷ []) (starts_is : new.starts.items ≡ old.starts.items ++ length old.lits.items ∷ []) where
  abbrev V : List (Option Assigned)
  V = old.values.items

  abbrev top : ℕ
  top = length old.lits.items

  extends : Extends top V (set V l.var (Some (record { positive = l.positive; place = top; reason = None })))
  extends = assigned_extends clauses V old.lits.items old.starts.items l None in' none

  pub decided_still : (p : ℕ) → p ≤ top → (m : Lit) → before new.values.items p m ≡ before V p m
  decided_still p le m = rw values_is (before-extends top V (set V l.var (Some (record { positive = l.positive; place = top; reason = None }))) extends p le m)

  decided_grown : Within (held V) (held new.values.items)
  decided_grown m e = before_within clauses new sound top m (decided_still top (omega arith) m ∙ held_before clauses V old.lits.items old.starts.items
      is.sound m ∙ e)
    where
      sound : HasTrail clauses new
      sound = rw (values_is, lits_is, starts_is) (assigned_decided clauses V old.lits.items old.starts.items l None in' none refl is.sound)

  start_cases : (p : ℕ) → Contains new.starts.items p → (Contains old.starts.items p × (p ≤ top)) ⊎ (top ≡ p)
  start_cases p has = elim (Contains-push_cases old.starts.items top p (subst (λ (xs : List ℕ). Contains xs p) starts_is has)) [
    | inl was ↦ inl (was, let k = at_place old.starts.items p was in let a = is.sound.inside k.0 k.1 in let e = k.2 in omega (arith, a, e))
    | inr e ↦ inr e
  ]

  pub decided : IsWatching clauses lists new × IsDone clauses new top
  decided =
      let same_size : length new.values.items ≡ length V = ap length values_is ∙ length-set V l.var _ in (
        record {
          range = rw same_size is.range;
          distinct = is.distinct;
          some = is.some;
          index = rw same_size is.index;
          sound = rw (values_is, lits_is, starts_is) (assigned_decided clauses V old.lits.items old.starts.items l None in' none refl is.sound);
          units = λ i lt one. let u = is.units i lt one in let c = at (clause_at clauses i) 0 in (
            decided_grown c u.0,
            λ p has. elim (start_cases p has) [
              | inl w ↦ decided_still p w.1 c ∙ u.1 p w.0
              | inr e ↦ subst (λ (q : ℕ). before new.values.items q c ≡ true) e
                  (decided_still top (omega arith) c ∙ held_before clauses V old.lits.items old.starts.items is.sound c ∙ u.0)
            ],
          );
          starts = λ p has. elim (start_cases p has) [
            | inl w ↦ AllPairs-same (before V p) (before V p) (before new.values.items p) (before new.values.items p) clauses (decided_still p w.1)
                (decided_still p w.1) (is.starts p w.0)
            | inr e ↦ subst (λ (q : ℕ). AllPairs (before new.values.items q) (before new.values.items q) clauses) e
                (AllPairs-same (before V top) (held V) (before new.values.items top) (before new.values.items top) clauses (decided_still top (omega arith))
                (λ m. decided_still top (omega arith) m ∙ held_before clauses V old.lits.items old.starts.items is.sound m) done.pairs)
          ];
        },
        record {
          head_le = let a = ap length lits_is in let b = length-append old.lits.items (l ∷ []) in omega (arith, a, b);
          pairs = AllPairs-more (before new.values.items top) (held V) (held new.values.items) clauses decided_grown
              (AllPairs-same (before V top) (held V) (before new.values.items top) (held V) clauses (decided_still top (omega arith)) (λ m. refl) done.pairs);
        },
      )

-- ---- decisions taken back

module _ (clauses : List (List Lit)) (old new : Trail) (bound : ℕ) (is : HasTrail clauses old) (cut : BackjumpsTo old new bound) where
  abbrev pub end : ℕ
  end = start_at old.starts.items cut.count

  end_inside : end < length old.lits.items
  end_inside = is.inside cut.count cut.there

  pub cut_length : length new.lits.items ≡ end
  cut_length = ap length cut.lits ∙ length-take-le end old.lits.items (let a = end_inside in omega (arith, a))

  pub cut_at : (i : ℕ) → i < end → at new.lits.items i ≡ at old.lits.items i
  cut_at i lt = ap (λ (xs : List Lit). at xs i) cut.lits ∙ get_or-take end old.lits.items i _ lt

  pub cut_value : (v : ℕ) → value new.values.items v ≡ keeps end (value old.values.items v)
  cut_value v = ap (λ (xs : List (Option Assigned)). value xs v) cut.values ∙ value-map end old.values.items v

  pub cut_before : (p : ℕ) → p ≤ end → (l : Lit) → before new.values.items p l ≡ before old.values.items p l
  cut_before p le l = rw cut.values (before-map end old.values.items p le l)

  pub cut_held : (l : Lit) → held new.values.items l ≡ before old.values.items end l
  cut_held l = ap (is_held l.positive) (cut_value l.var)

  starts_length : length new.starts.items ≡ cut.count
  starts_length = ap length cut.starts ∙ length-take-le cut.count old.starts.items (let a = cut.there in omega (arith, a))

  starts_same : (i : ℕ) → i < cut.count → start_at new.starts.items i ≡ start_at old.starts.items i
  starts_same i lt = ap (λ (xs : List ℕ). start_at xs i) cut.starts ∙ get_or-take cut.count old.starts.items i 0 lt

  pub cut_start : (p : ℕ) → Contains new.starts.items p → Contains old.starts.items p × (p < end) × (p < bound)
  cut_start p has =
      let k = at_place new.starts.items p has in
      let lt : k.0 < cut.count = rw (← starts_length) k.1 in
      let e : start_at old.starts.items k.0 ≡ p = sym (starts_same k.0 lt) ∙ k.2 in
      let there = cut.there in
      let r = is.rising k.0 cut.count lt there in
      let b = cut.split.below k.0 lt in
      (subst (Contains old.starts.items) e (Contains-get_or old.starts.items k.0 0 (omega (arith, lt, there))), omega (arith, e, r), omega (arith, e, b))

  start_kept : (p : ℕ) → p < end → Contains old.starts.items p → Contains new.starts.items p
  start_kept p lt has =
      let k = at_place old.starts.items p has in
      let at' = k.2 in
      elim (cases_lt k.0 cut.count) [
        | inl less ↦ subst (Contains new.starts.items) (starts_same k.0 less ∙ at') (Contains-get_or new.starts.items k.0 0 (rw starts_length less))
        | inr more ↦ elim (cases_eq k.0 cut.count) [
          | inl e ↦ let a = ap (start_at old.starts.items) e in absurd (omega (arith, a, at', lt))
          | inr ne ↦ let r = is.rising cut.count k.0 (omega (arith, more, ne)) k.1 in absurd (omega (arith, r, at', lt))
        ]
      ]

  cut_comes : (l : Lit) (place : ℕ) (o : Option ℕ) → place < end → Comes clauses old.values.items old.starts.items l place o →
      Comes clauses new.values.items new.starts.items l place o
  cut_comes l place None lt is' = start_kept place lt is'
  cut_comes l place (Some c) lt is' =
      comes_same clauses old.values.items new.values.items new.starts.items l place (Some c) (cut_before place (omega (arith, lt))) is'

  pub cut_trail : HasTrail clauses new
  cut_trail = record {
    placed = λ i lt.
        let less : i < end = rw (← cut_length) lt in
        let inside = end_inside in
        let p = is.placed i (omega (arith, less, inside)) in
        rw (cut_at i less) (
          p.0,
          cut_value (at old.lits.items i).var ∙ ap (keeps end) p.1 ∙ keeps_lt end p.0 (rw p.3 less),
          p.2,
          p.3,
        );
    back = λ v h e.
        let k = kept_is end (value old.values.items v) h (sym (cut_value v) ∙ e) in
        let b = is.back v h k.0 in
        (rw cut_length k.1, cut_at h.place k.1 ∙ b.1);
    comes = λ v h e.
        let k = kept_is end (value old.values.items v) h (sym (cut_value v) ∙ e) in
        cut_comes (record { var = v; positive = h.positive }) h.place h.reason k.1 (is.comes v h k.0);
    rising = λ i j ij jl.
        let jc : j < cut.count = rw (← starts_length) jl in
        let there = cut.there in
        let a = starts_same i (omega (arith, ij, jc)) in
        let b = starts_same j jc in
        let r = is.rising i j ij (omega (arith, jc, there)) in
        omega (arith, a, b, r);
    inside = λ i lt.
        let ic : i < cut.count = rw (← starts_length) lt in
        let a = starts_same i ic in
        let r = is.rising i cut.count ic cut.there in
        let len = cut_length in
        omega (arith, a, r, len);
  }

  pub cut_watching : (lists : List (List ℕ)) → IsWatching clauses lists old → IsWatching clauses lists new × IsDone clauses new end
  cut_watching lists w =
      let W = new.values.items in
      let V = old.values.items in
      let same_size : length W ≡ length V = ap length cut.values ∙ length-map V (keeps end) in
      let here : Contains old.starts.items end = Contains-get_or old.starts.items cut.count 0 cut.there in (
        record {
          range = rw same_size w.range;
          distinct = w.distinct;
          some = w.some;
          index = rw same_size w.index;
          sound = cut_trail;
          units = λ i lt one. let u = w.units i lt one in let c = at (clause_at clauses i) 0 in (
            cut_held c ∙ u.1 end here,
            λ p has. let k = cut_start p has in cut_before p (let a = k.1 in omega (arith, a)) c ∙ u.1 p k.0,
          );
          starts = λ p has.
              let k = cut_start p has in
              let le : p ≤ end = let a = k.1 in omega (arith, a) in
              AllPairs-same (before V p) (before V p) (before W p) (before W p) clauses (cut_before p le) (cut_before p le) (w.starts p k.0);
        },
        record {
          head_le = let a = cut_length in omega (arith, a);
          pairs = AllPairs-same (before V end) (before V end) (before W end) (held W) clauses (cut_before end (omega arith)) cut_held (w.starts end here);
        },
      )
