-- Watching: what the walk over a watch list needs, and what it leaves.
use Rattle.std.proofs.Common.{◌≡◌, ℕ, ◌<◌, ◌≤◌, Bool, true, not, List, [], inl, inr, sym, ◌∙◌, ap, subst, length, get_or}
use Rattle.std.proofs.Common.{Option, Some, arith}
use Rattle.std.specs.List.{All, Contains}
use Rattle.std.proofs.lemmas.List.{get_or_default}
use Rattle.std.proofs.lemmas.List.Sorted.{All-permutation, Contains-permutation, IsPermutation-sym, length_permutation}
use Rattle.std.proofs.lemmas.List.Elements.{Contains-get_or}
use Rattle.std.proofs.lemmas.Bool.{cases_eq}
use Rattle.lv_cnf.specs.declared.literal.Lit.{Lit}
use Rattle.lv_cnf.specs.Literals.{negated, InRange, signed}
use Rattle.lv_cnf.specs.Propagation.{IsSettled, Settles}
use Rattle.lv_cnf.specs.Packed.{at, clause_at}
use Rattle.lv_watch.specs.declared.trail.Assigned.{Assigned}
use Rattle.lv_watch.specs.declared.trail.Trail.{Trail}
use Rattle.lv_watch.specs.Values.{value, held, before}
use Rattle.lv_watch.specs.Lists.{slot, list_at, IsApart, IsWatched, IsIndex, AllDistinct, AllPairs, Within, Permutes}
use Rattle.lv_watch.proofs.Passing.{KeepsPairs, Listed, Walks}
use Rattle.lv_watch.specs.Trail.{HasTrail, Lengthens}
use Rattle.lv_watch.specs.Visit.{IsFalse}
use Rattle.lv_watch.specs.Watching.{IsFixed, IsWatching}
use Rattle.lv_watch.proofs.Levels.{before-extends, value_in_range, held_is}
use Rattle.lv_watch.proofs.Index.{distinct_places, distinct_permuted, at_place, watched_still}
use Rattle.lv_watch.proofs.Pairs.{pair_settled}
use Rattle.lv_watch.proofs.Places.{before_within}

-- ---- sets and pairs

pub AllPairs-same : (s t s' t' : Lit → Bool) (clauses : List (List Lit)) → ((l : Lit) → s' l ≡ s l) → ((l : Lit) → t' l ≡ t l) →
    AllPairs s t clauses → AllPairs s' t' clauses
AllPairs-same s t s' t' clauses a b pairs i lt two =
    let p = pairs i lt two in
    let c = clause_at clauses i in
    (λ e. b (at c 1) ∙ p.0 (sym (a (negated (at c 0))) ∙ e), λ e. b (at c 0) ∙ p.1 (sym (a (negated (at c 1))) ∙ e))

-- units and pairs settle all
pub pairs_settle : (s : Lit → Bool) (clauses : List (List Lit)) → AllDistinct clauses → ((i : ℕ) → i < length clauses → 1 ≤ length (clause_at clauses i)) →
    ((i : ℕ) → i < length clauses → length (clause_at clauses i) ≡ 1 → s (at (clause_at clauses i) 0) ≡ true) → AllPairs s s clauses → Settles s clauses
pairs_settle s clauses distinct some units pairs i d lt =
    let c = clause_at clauses i in
    let same : c ≡ get_or clauses i d = get_or_default clauses i [] d lt in
    subst (IsSettled s) same (elim (cases_eq (length c) 1) [
      | inl one ↦ inl (at c 0, Contains-get_or c 0 _ (some i lt), units i lt one)
      | inr ne ↦
          let two : 2 ≤ length c = let a = some i lt in omega (arith, a, ne) in
          pair_settled s c two (distinct_places c 0 1 (distinct i lt) (omega arith) two) (pairs i lt two)
    ])

-- ---- what a walk needs

module _ (clauses : List (List Lit)) (lists : List (List ℕ)) (trail : Trail) (is : IsWatching clauses lists trail) where
  pub listed : (gone : Lit) → IsFalse trail.values.items gone → Listed clauses lists trail.values.items gone
  listed gone false' = record {
    small = small;
    apart = is.index.apart gone small;
    watched = λ k lt. is.index.sound gone small _ (Contains-get_or (list_at lists (slot gone)) k 0 lt);
    complete = λ i lt two w.
        let k = at_place (list_at lists (slot gone)) i (is.index.complete i lt two gone w) in (k.0, k.1, k.2);
    twins = λ i lt two. distinct_places (clause_at clauses i) 0 1 (is.distinct i lt) (omega arith) two;
  }
    where
      h : (h : Assigned) × (value trail.values.items gone.var ≡ Some h) × (signed (not gone.positive) h.positive ≡ true)
      h = held_is (not gone.positive) (value trail.values.items gone.var) false'

      small : gone.var < length trail.values.items
      small = value_in_range trail.values.items gone.var h.0 h.1

-- the clauses of the list that were not visited yet
module _ (first old : List (List Lit)) (lists : List (List ℕ)) (values now : List (Option Assigned)) (gone : Lit) (list : List ℕ)
    (place base read : ℕ) (before' : Listed first lists values gone) (taken : list ≡ list_at lists (slot gone))
    (so : Walks first old values now list place base read) where
  pub list_apart : IsApart list
  list_apart = subst IsApart (sym taken) before'.apart

  pub list_watched : (k : ℕ) → k < length list → IsWatched first gone (get_or list k 0)
  list_watched =
      subst (λ (xs : List ℕ). (k : ℕ) → k < length xs → IsWatched first gone (get_or xs k 0)) (sym taken) before'.watched

  pub next_watched : (k : ℕ) → place ≤ k → k < length list → IsWatched old gone (get_or list k 0)
  next_watched k from lt =
      watched_still first old gone (get_or list k 0) so.permutes.count (so.untouched k from lt) (list_watched k lt)

  pub next_range : All (InRange (length values)) first → length now ≡ length values → (k : ℕ) → place ≤ k → k < length list →
      InRange (length now) (clause_at old (get_or list k 0))
  next_range range size k from lt =
      subst (InRange (length now)) (sym (so.untouched k from lt)) (rw size (range (get_or list k 0) [] (list_watched k lt).there))

  pub next_apart : (k : ℕ) → place ≤ k → k < length list →
      at (clause_at old (get_or list k 0)) 0 ≡ at (clause_at old (get_or list k 0)) 1 → ⊥
  next_apart k from lt =
      let w = list_watched k lt in
      subst (λ (c : List Lit). at c 0 ≡ at c 1 → ⊥) (sym (so.untouched k from lt)) (before'.twins (get_or list k 0) w.there w.two)

-- ---- after a walk

module _ (clauses new : List (List Lit)) (lists later_lists : List (List ℕ)) (trail later : Trail) (is : IsWatching clauses lists trail)
    (sound : HasTrail new later) (longer : Lengthens trail later) (permutes : Permutes clauses new) where
  in_new : (i : ℕ) → i < length new → i < length clauses
  in_new i lt = rw (← permutes.count) lt

  same_length : (i : ℕ) → length (clause_at new i) ≡ length (clause_at clauses i)
  same_length i = length_permutation (clause_at clauses i) (clause_at new i) (permutes.each i)

  -- a unit's literal stays where it is
  unit_same : (i : ℕ) → length (clause_at new i) ≡ 1 → at (clause_at new i) 0 ≡ at (clause_at clauses i) 0
  unit_same i one =
      let c = clause_at clauses i in
      let n = clause_at new i in
      let one' : length c ≡ 1 = sym (same_length i) ∙ one in
      let has : Contains c (at n 0) = Contains-permutation n c (at n 0) (IsPermutation-sym c n (permutes.each i))
      (Contains-get_or n 0 _ (omega (arith, one))) in
      let first : has.0 ≡ 0 = let lt = has.1 in omega (arith, lt, one') in
      sym has.2 ∙ ap (λ (k : ℕ). get_or c k (at n 0)) first ∙ get_or_default c 0 (at n 0) _ (omega (arith, one'))

  pub before_still : (p : ℕ) → p ≤ length trail.lits.items → (l : Lit) → before later.values.items p l ≡ before trail.values.items p l
  before_still p le l = before-extends (length trail.lits.items) trail.values.items later.values.items longer.extends p le l

  pub walked : IsIndex (length later.values.items) new later_lists → KeepsPairs trail.values.items clauses new →
      Within (held trail.values.items) (held later.values.items) →
      IsWatching new later_lists later
  walked index keeps' grown =
      let V = trail.values.items in
      let W = later.values.items in
      record {
        range = λ i d lt. subst (InRange (length W)) (get_or_default new i [] d lt) (rw longer.extends.0
            (All-permutation (λ l. l.var < length V) (clause_at clauses i) (clause_at new i) (permutes.each i) (is.range i [] (in_new i lt))));
        distinct = λ i lt. distinct_permuted (clause_at clauses i) (clause_at new i) (permutes.each i) (is.distinct i (in_new i lt));
        some = λ i lt. rw (same_length i) (is.some i (in_new i lt));
        index = index;
        sound = sound;
        units = λ i lt one.
            let u = is.units i (in_new i lt) (sym (same_length i) ∙ one) in
            let e = unit_same i one in
            subst (IsFixed later) (sym e) (
              grown (at (clause_at clauses i) 0) u.0,
              λ p has.
                  let has' : Contains trail.starts.items p = subst (λ (xs : List ℕ). Contains xs p) longer.starts has in
                  before_still p (start_inside p has') (at (clause_at clauses i) 0) ∙ u.1 p has',
            );
        starts = λ p has.
            let has' : Contains trail.starts.items p = subst (λ (xs : List ℕ). Contains xs p) longer.starts has in
            let b = before_within clauses trail is.sound p in
            AllPairs-same (before V p) (before V p) (before W p) (before W p) new (before_still p (start_inside p has')) (before_still p (start_inside p has'))
            (keeps' (before V p) (before V p) b b (is.starts p has'));
      }
    where
      start_inside : (p : ℕ) → Contains trail.starts.items p → p ≤ length trail.lits.items
      start_inside p has =
          let k = at_place trail.starts.items p has in
          let a = is.sound.inside k.0 k.1 in
          let e = k.2 in omega (arith, a, e)
