-- A further clause, with a literal that is true by it or without.
use Rattle.std.proofs.Common.{◌≡◌, ℕ, ◌<◌, ◌≤◌, Bool, true, false, not, List, [], ◌∷◌, ◌++◌, refl, ◌∙◌, ap, subst, length, Option, Some, None, arith}
use Rattle.std.proofs.Common.{length-append}
use Rattle.std.specs.List.{Contains, IsDistinct}
use Rattle.std.specs.Prelude.{map}
use Rattle.std.proofs.lemmas.List.{get_or_default, length-map}
use Rattle.lv_cnf.specs.declared.literal.Lit.{Lit}
use Rattle.lv_cnf.specs.Literals.{negated, InRange}
use Rattle.lv_cnf.proofs.Logic.{clash}
use Rattle.lv_cnf.specs.Packed.{at, clause_at}
use Rattle.lv_watch.specs.declared.trail.Assigned.{Assigned}
use Rattle.lv_watch.specs.declared.trail.Trail.{Trail}
use Rattle.lv_watch.specs.Values.{value, is_held, held, before, keeps}
use Rattle.lv_watch.specs.Visit.{Pair, IsFalse}
use Rattle.lv_watch.specs.Lists.{IsIndex, Within, same_lit}
use Rattle.lv_watch.specs.Trail.{Comes, HasTrail, Lengthens, Assigns, BackjumpsTo}
use Rattle.lv_propagate.specs.declared.state.State.{State}
use Rattle.lv_watch.specs.Watching.{IsFixed, IsWatching}
use Rattle.lv_propagate.specs.State.{IsDone, IsState, IsConflict, IsFresh, Adds, Asserts}
use Rattle.lv_watch.proofs.Levels.{before-extends, keeps_le}
use Rattle.lv_watch.proofs.Index.{at_place}
use Rattle.lv_watch.proofs.Walking.{Within-assigned, held_assigned}
use Rattle.lv_watch.proofs.Trails.{assigns_trail, lengthens_none, lengthens_more, unit_reason}
use Rattle.lv_watch.proofs.Watching.{AllPairs-same}
use Rattle.lv_watch.proofs.Places.{before_more, place_of}
use Rattle.lv_propagate.proofs.Changes.{AllPairs-more, end, cut_length, cut_value, cut_before, cut_held, cut_start, cut_trail, cut_watching}
use Rattle.lv_propagate.proofs.Attaching.{push_old, push_new, push_all}

module _ (clauses : List (List Lit)) (c : List Lit) where
  abbrev more : List (List Lit)
  more = clauses ++ c ∷ []

  comes_pushed : (trail : Trail) (l : Lit) (place : ℕ) (o : Option ℕ) → Comes clauses trail.values.items trail.starts.items l place o →
      Comes more trail.values.items trail.starts.items l place o
  comes_pushed trail l place None is = is
  comes_pushed trail l place (Some r) is = record {
    there = let a = is.there in let len = length-append clauses (c ∷ []) in omega (arith, a, len);
    has = rw (push_old clauses c r is.there) is.has;
    others = rw (push_old clauses c r is.there) is.others;
  }

  pub trail_pushed : (trail : Trail) → HasTrail clauses trail → HasTrail more trail
  trail_pushed trail is = record {
    placed = is.placed;
    back = is.back;
    comes = λ v h e. comes_pushed trail (record { var = v; positive = h.positive }) h.place h.reason (is.comes v h e);
    rising = is.rising;
    inside = is.inside;
  }

  module _ (lists lists' : List (List ℕ)) (trail later : Trail) (is : IsWatching clauses lists trail)
      (index : IsIndex (length later.values.items) more lists') (sound : HasTrail more later) (longer : Lengthens trail later)
      (grown : Within (held trail.values.items) (held later.values.items))
      (range : InRange (length trail.values.items) c) (distinct : IsDistinct same_lit c) (some : 1 ≤ length c) where
    abbrev V : List (Option Assigned)
    V = trail.values.items

    abbrev W : List (Option Assigned)
    W = later.values.items

    still : (p : ℕ) → p ≤ length trail.lits.items → (l : Lit) → before W p l ≡ before V p l
    still p le l = before-extends (length trail.lits.items) V W longer.extends p le l

    old_start : (p : ℕ) → Contains later.starts.items p → Contains trail.starts.items p × (p ≤ length trail.lits.items)
    old_start p has =
        let has' : Contains trail.starts.items p = subst (λ (xs : List ℕ). Contains xs p) longer.starts has in
        let k = at_place trail.starts.items p has' in
        let a = is.sound.inside k.0 k.1 in
        let e = k.2 in
        (has', omega (arith, a, e))

    pub watching_pushed : (length c ≡ 1 → IsFixed later (at c 0)) →
        (2 ≤ length c → (p : ℕ) → Contains later.starts.items p → Pair (before W p) (before W p) c) →
        IsWatching more lists' later
    watching_pushed unit pairs = record {
      range = λ i d lt. subst (InRange (length W)) (get_or_default more i [] d lt)
          (push_all clauses c (InRange (length W)) (λ j jl. rw longer.extends.0 (is.range j [] jl)) (rw longer.extends.0 range) i lt);
      distinct = push_all clauses c (IsDistinct same_lit) is.distinct distinct;
      some = push_all clauses c (λ d. 1 ≤ length d) is.some some;
      index = index;
      sound = sound;
      units = push_all clauses c (λ d. length d ≡ 1 → IsFixed later (at d 0))
          (λ i lt one. let u = is.units i lt one in (
            grown (at (clause_at clauses i) 0) u.0,
            λ p has. let k = old_start p has in still p k.1 (at (clause_at clauses i) 0) ∙ u.1 p k.0,
          )) unit;
      starts = λ p has. let k = old_start p has in
          push_all clauses c (λ d. 2 ≤ length d → Pair (before W p) (before W p) d)
          (AllPairs-same (before V p) (before V p) (before W p) (before W p) clauses (still p k.1) (still p k.1) (is.starts p k.0))
          (λ two. pairs two p has);
    }

    pub done_pushed : (head : ℕ) → IsDone clauses trail head → (2 ≤ length c → Pair (before W head) (held W) c) → IsDone more later head
    done_pushed head done pair = record {
      head_le = let a = done.head_le in let b = longer.longer in omega (arith, a, b);
      pairs = push_all clauses c (λ d. 2 ≤ length d → Pair (before W head) (held W) d)
          (AllPairs-more (before W head) (held V) (held W) clauses grown
          (AllPairs-same (before V head) (held V) (before W head) (held V) clauses (still head done.head_le) (λ l. refl) done.pairs)) pair;
    }

-- ---- a learned clause

module _ (clauses : List (List Lit)) (c : List Lit) (lists lists' : List (List ℕ)) (old mid new : Trail) (bound : ℕ) (is : IsWatching clauses lists old)
    (cut : BackjumpsTo old mid bound) (asserts : Asserts old c bound)
    (index : IsIndex (length mid.values.items) (clauses ++ c ∷ []) lists') (puts : Assigns mid new (at c 0) (Some (length clauses))) where
  abbrev till : ℕ
  till = end clauses old mid bound is.sound cut

  bound_le : bound ≤ till
  bound_le = cut.split.above cut.there

  cut_is : IsWatching clauses lists mid × IsDone clauses mid till
  cut_is = cut_watching clauses old mid bound is.sound cut lists is

  first_late : till ≤ asserts.first.0.place
  first_late = asserts.first.2 cut.count cut.there

  -- the literal that is asserted is undecided below the cut, with its negation
  first_open : (p : ℕ) → p ≤ till → (b : Bool) → is_held b (keeps p (value old.values.items (at c 0).var)) ≡ false
  first_open p le b = ap (λ (o : Option Assigned). is_held b (keeps p o)) asserts.first.1
      ∙ ap (is_held b) (keeps_le p asserts.first.0 (let a = first_late in omega (arith, a, le)))

  pub assert_free : value mid.values.items (at c 0).var ≡ None
  assert_free = cut_value clauses old mid bound is.sound cut (at c 0).var ∙ ap (keeps till) asserts.first.1 ∙ keeps_le till asserts.first.0 first_late

  same_size : length mid.values.items ≡ length old.values.items
  same_size = ap length cut.values ∙ size
    where
      size : length (map (keeps till) old.values.items) ≡ length old.values.items
      size = length-map old.values.items (keeps till)

  pub assert_in : (at c 0).var < length mid.values.items
  assert_in = rw same_size (asserts.range 0 _ (let a = asserts.some in omega (arith, a)))

  pushed : HasTrail (clauses ++ c ∷ []) mid
  pushed = trail_pushed clauses c mid (cut_trail clauses old mid bound is.sound cut)

  sound : HasTrail (clauses ++ c ∷ []) new
  sound = assigns_trail (clauses ++ c ∷ []) mid new (at c 0) (Some (length clauses)) puts assert_in assert_free pushed
      (unit_reason (clauses ++ c ∷ []) mid (length clauses) (at c 0) pushed (let len = length-append clauses (c ∷ []) in omega (arith, len))
      (rw (push_new clauses c) asserts.some) (ap (λ (d : List Lit). at d 0) (push_new clauses c))
      (rw (push_new clauses c) (λ k one lt. cut_held clauses old mid bound is.sound cut (negated (at c k))
      ∙ before_more clauses old is.sound bound till bound_le (negated (at c k)) (asserts.others k one lt))))

  longer : Lengthens mid new
  longer = lengthens_more mid mid new (at c 0) (Some (length clauses)) puts assert_in assert_free (lengthens_none mid)

  grown : Within (held mid.values.items) (held new.values.items)
  grown = rw puts.values (Within-assigned mid.values.items (at c 0) _ assert_free)

  pub now_held : held new.values.items (at c 0) ≡ true
  now_held = rw puts.values (held_assigned mid.values.items (at c 0) _ assert_in refl)

  below_cut : (p : ℕ) → p ≤ till → (l : Lit) → before new.values.items p l ≡ before old.values.items p l
  below_cut p le l =
      before-extends (length mid.lits.items) mid.values.items new.values.items longer.extends p
      (let a = cut_length clauses old mid bound is.sound cut in omega (arith, a, le)) l
      ∙ cut_before clauses old mid bound is.sound cut p le l

  pub size_kept : length new.values.items ≡ length old.values.items
  size_kept = longer.extends.0 ∙ same_size

  pub asserted : IsWatching (clauses ++ c ∷ []) lists' new × IsDone (clauses ++ c ∷ []) new (length mid.lits.items)
  asserted =
      let range : InRange (length mid.values.items) c = rw same_size asserts.range in
      let index' : IsIndex (length new.values.items) (clauses ++ c ∷ []) lists' = rw longer.extends.0 index in
      let len = cut_length clauses old mid bound is.sound cut in
      let done : IsDone clauses mid (length mid.lits.items) = rw len cut_is.1 in (
        watching_pushed clauses c lists lists' mid new cut_is.0 index' sound longer grown range asserts.distinct asserts.some
            (λ one. (
              now_held,
              λ p has.
                  let k = cut_start clauses old mid bound is.sound cut p (subst (λ (xs : List ℕ). Contains xs p) longer.starts has) in
                  let z = asserts.alone one in let a = k.2 in absurd (omega (arith, a, z)),
            ))
            (λ two p has.
            let k = cut_start clauses old mid bound is.sound cut p (subst (λ (xs : List ℕ). Contains xs p) longer.starts has) in
            let le : p ≤ till = let a = k.1 in omega (arith, a) in (
              λ e. absurd (clash (before new.values.items p (negated (at c 0))) e
                  (below_cut p le (negated (at c 0)) ∙ first_open p le (not (at c 0).positive))),
              λ e. absurd (clash (before new.values.items p (negated (at c 1))) e (below_cut p le (negated (at c 1)) ∙ asserts.second two p k.2)),
            )),
        done_pushed clauses c lists lists' mid new cut_is.0 index' sound longer grown range asserts.distinct asserts.some (length mid.lits.items) done
            (λ two. (
              λ e. absurd (clash (before new.values.items (length mid.lits.items) (negated (at c 0))) e
                  (below_cut (length mid.lits.items) (omega (arith, len)) (negated (at c 0)) ∙ first_open (length mid.lits.items) (omega (arith, len))
                  (not (at c 0).positive))),
              λ e. now_held,
            )),
      )

-- ---- a clause that is loaded

module _ (s : State) (c : List Lit) (fresh : IsFresh s) (is : IsState s) (range : InRange (length s.trail.values.items) c) (distinct : IsDistinct same_lit c)
    (lists' : List (List ℕ)) (index : IsIndex (length s.trail.values.items) (s.packed ++ c ∷ []) lists') where
  abbrev loaded : List (List Lit)
  loaded = s.packed ++ c ∷ []

  none_before : (clauses : List (List Lit)) (t : Trail) → HasTrail clauses t → (l : Lit) → before t.values.items 0 l ≡ true → ⊥
  none_before clauses t sound l e = let k = place_of clauses t sound 0 l e in let a = k.1 in omega (arith, a)

  none_start : (starts : List ℕ) → starts ≡ [] → (p : ℕ) → Contains starts p → ⊥
  none_start starts e p has = let k = at_place starts p has in let a = k.1 in let b = ap length e in omega (arith, a, b)

  pub add_fresh : HasTrail loaded s.trail
  add_fresh = trail_pushed s.packed c s.trail is.0.sound

  pub add_kept : 1 ≤ length c → (length c ≡ 1 → held s.trail.values.items (at c 0) ≡ true) → IsWatching loaded lists' s.trail × IsDone loaded s.trail 0
  add_kept some holds = (
    watching_pushed s.packed c s.watches lists' s.trail s.trail is.0 index add_fresh (lengthens_none s.trail) (λ l e. e) range distinct some
        (λ one. (holds one, λ p has. absurd (none_start s.trail.starts.items fresh.starts p has)))
        (λ two p has. absurd (none_start s.trail.starts.items fresh.starts p has)),
    done_pushed s.packed c s.watches lists' s.trail s.trail is.0 index add_fresh (lengthens_none s.trail) (λ l e. e) range distinct some 0
        (rw fresh.head at is.1)
        (λ two. (
          λ e. absurd (none_before loaded s.trail add_fresh (negated (at c 0)) e),
          λ e. absurd
              (none_before loaded s.trail add_fresh (negated (at c 1)) e),
        )),
  )

  pub add_conflict : ((k : ℕ) → k < length c → IsFalse s.trail.values.items (at c k)) → IsConflict loaded s.trail (length s.packed)
  add_conflict false' = (let len = length-append s.packed (c ∷ []) in omega (arith, len), rw (push_new s.packed c) false')

  module _ (later : Trail) (one : length c ≡ 1) (none : value s.trail.values.items (at c 0).var ≡ None)
      (puts : Assigns s.trail later (at c 0) (Some (length s.packed))) where
    put_in : (at c 0).var < length s.trail.values.items
    put_in = range 0 _ (omega (arith, one))

    pub add_sound : HasTrail loaded later
    add_sound = assigns_trail loaded s.trail later (at c 0) (Some (length s.packed)) puts put_in none add_fresh
        (unit_reason loaded s.trail (length s.packed) (at c 0) add_fresh (let len = length-append s.packed (c ∷ []) in omega (arith, len))
        (rw (push_new s.packed c) (omega (arith, one))) (ap (λ (d : List Lit). at d 0) (push_new s.packed c))
        (rw (push_new s.packed c) (λ k le lt. absurd (omega (arith, one, le, lt)))))

    pub add_longer : Lengthens s.trail later
    add_longer = lengthens_more s.trail s.trail later (at c 0) (Some (length s.packed)) puts put_in none (lengthens_none s.trail)

    pub add_put : IsWatching loaded lists' later × IsDone loaded later 0
    add_put =
        let starts : later.starts.items ≡ [] = add_longer.starts ∙ fresh.starts in
        let grown : Within (held s.trail.values.items) (held later.values.items) = rw puts.values (Within-assigned s.trail.values.items (at c 0) _ none) in
        let holds : held later.values.items (at c 0) ≡ true = rw puts.values (held_assigned s.trail.values.items (at c 0) _ put_in refl) in
        let index' : IsIndex (length later.values.items) loaded lists' = rw add_longer.extends.0 index in
        let some : 1 ≤ length c = omega (arith, one) in (
          watching_pushed s.packed c s.watches lists' s.trail later is.0 index' add_sound add_longer grown range distinct some
              (λ e. (holds, λ p has. absurd (none_start later.starts.items starts p has)))
              (λ two p has. absurd (none_start later.starts.items starts p has)),
          done_pushed s.packed c s.watches lists' s.trail later is.0 index' add_sound add_longer grown range distinct some 0 (rw fresh.head at is.1)
              (λ two. absurd (omega (arith, one, two))),
        )

module _ (s new : State) (c : List Lit) (fresh : IsFresh s) (is : IsState s) (range : InRange (length s.trail.values.items) c)
    (distinct : IsDistinct same_lit c)
    (index : IsIndex (length s.trail.values.items) new.packed new.watches) (clauses_is : new.packed ≡ s.packed ++ c ∷ []) (head_is : new.head ≡ s.head) where
  index_is : IsIndex (length s.trail.values.items) (s.packed ++ c ∷ []) new.watches
  index_is = rw (← clauses_is) index

  pub adds_kept : new.trail ≡ s.trail → 1 ≤ length c → (length c ≡ 1 → held s.trail.values.items (at c 0) ≡ true) → Adds s new c true
  adds_kept trail_is some holds = record {
    clauses = clauses_is;
    size = ap (λ (t : Trail). length t.values.items) trail_is;
    fresh = record {
      sound = rw (clauses_is, trail_is) (add_fresh s c fresh is range distinct new.watches index_is);
      head = head_is ∙ fresh.head;
      starts = ap (λ (t : Trail). t.starts.items) trail_is ∙ fresh.starts;
    };
    state = λ t. rw (clauses_is, trail_is, head_is, fresh.head) (add_kept s c fresh is range distinct new.watches index_is some holds);
    conflict = λ f. cc;
  }

  pub adds_false : new.trail ≡ s.trail → ((k : ℕ) → k < length c → IsFalse s.trail.values.items (at c k)) → Adds s new c false
  adds_false trail_is false' = record {
    clauses = clauses_is;
    size = ap (λ (t : Trail). length t.values.items) trail_is;
    fresh = record {
      sound = rw (clauses_is, trail_is) (add_fresh s c fresh is range distinct new.watches index_is);
      head = head_is ∙ fresh.head;
      starts = ap (λ (t : Trail). t.starts.items) trail_is ∙ fresh.starts;
    };
    state = λ t. cc;
    conflict = λ f. rw (clauses_is, trail_is) (add_conflict s c fresh is range distinct new.watches index_is false');
  }

  pub adds_assigned : length c ≡ 1 → value s.trail.values.items (at c 0).var ≡ None → Assigns s.trail new.trail (at c 0) (Some (length s.packed)) →
      Adds s new c true
  adds_assigned one none puts = record {
    clauses = clauses_is;
    size = (add_longer s c fresh is range distinct new.watches index_is new.trail one none puts).extends.0;
    fresh = record {
      sound = rw clauses_is (add_sound s c fresh is range distinct new.watches index_is new.trail one none puts);
      head = head_is ∙ fresh.head;
      starts = (add_longer s c fresh is range distinct new.watches index_is new.trail one none puts).starts ∙ fresh.starts;
    };
    state = λ t. rw (clauses_is, head_is, fresh.head) (add_put s c fresh is range distinct new.watches index_is new.trail one none puts);
    conflict = λ f. cc;
  }
