use Rattle.std.proofs.Common.{◌≡◌, ◌+◌, ◌<◌, Some, length, get_or, ◌∙◌, sym, refl, subst, arith}
use Rattle.std.specs.List.{Contains}
use Rattle.std.proofs.lemmas.List.{length-set}
use Rattle.std.proofs.lemmas.List.Sorted.{IsPermutation-refl}
use Rattle.lv_cnf.specs.declared.literal.Lit.{Lit}
use Rattle.lv_cnf.specs.Literals.{negated}
use Rattle.lv_cnf.specs.Packed.{at, clause_at}
use Rattle.lv_watch.specs.declared.visit.Visit.{Visit}
use Rattle.lv_watch.specs.declared.visit.Visit.TheVariants.{Kept, Moved, Unit as UnitAt, Conflict}
use Rattle.lv_watch.specs.Values.{held}
use Rattle.lv_watch.specs.Visit.{VisitIs}
use Rattle.lv_watch.specs.Lists.{slot, list_at, Within}
use Rattle.lv_watch.proofs.Passing.{IsComplete}
use Rattle.lv_watch.proofs.Walking.{walks_more, slot_below, moved_in_range, Within-assigned, walks_end, Here, reaches_more, reach_holds}
use Rattle.lv_watch.proofs.Walking.{reach_moved, reaches_end, held_assigned, unit_in_range, reaches_none}
use Rattle.lv_watch.proofs.Index.{index_taken, index_done, index_visited, index_back, moved_absent, distinct_now}
use Rattle.lv_watch.proofs.Trails.{trail_permuted, visit_permutes, visit_unit, lengthens_none, lengthens_more}
use Rattle.lv_watch.proofs.Watching.{listed, list_apart, list_watched, next_watched, next_range, next_apart, walked}
use Rattle.lv_watch.proofs.walk.walk_watches.Goals as goal
use Rattle.lv_watch.proofs.walk.walk_watches.Goals.{in-Kept+in_ok-add-in-Kept, in-Moved+in_ok-add-in-Moved}
use Rattle.lv_watch.proofs.walk.walk_watches.Goals.{in-Unit+in_ok-add-in-Unit+in_ok-assign-in-Unit}

pub visit_clause-requires-clause-clause : goal.visit_clause-requires-clause-clause
visit_clause-requires-clause-clause g c =
    let first = c.args.packed.now in
    let lists = c.args.watches.now in
    let values = c.args.trail.now.values.items in
    let old = c.loop-place.packed in
    let now = c.loop-place.trail.values.items in
    let gone = c.args.gone in
    let list = c.as_slice-places.result.now in
    let place = c.loop-place.place in
    let i = get_or list place 0 in
    let base = c.args.steps.now in
    let read = c.loop-place.steps in
    let so = c.loop-place.invariant.0 in
    let taken : list ≡ list_at lists (slot gone) = c.as_slice-places.ensures ∙ c.take-list.ensures.list in
    let h = listed c.args.packed.now c.args.watches.now c.args.trail.now c.requires.watching c.args.gone c.requires.gone in
    let size : length now ≡ length values = c.loop-place.invariant.6.extends.0 in
    let lt : place < length list = c.loop-place-test.true in
    (next_watched first old lists values now gone list place base read h taken so place (omega arith) lt).there

pub visit_clause-requires-clause-two : goal.visit_clause-requires-clause-two
visit_clause-requires-clause-two g c =
    let first = c.args.packed.now in
    let lists = c.args.watches.now in
    let values = c.args.trail.now.values.items in
    let old = c.loop-place.packed in
    let now = c.loop-place.trail.values.items in
    let gone = c.args.gone in
    let list = c.as_slice-places.result.now in
    let place = c.loop-place.place in
    let i = get_or list place 0 in
    let base = c.args.steps.now in
    let read = c.loop-place.steps in
    let so = c.loop-place.invariant.0 in
    let taken : list ≡ list_at lists (slot gone) = c.as_slice-places.ensures ∙ c.take-list.ensures.list in
    let h = listed c.args.packed.now c.args.watches.now c.args.trail.now c.requires.watching c.args.gone c.requires.gone in
    let size : length now ≡ length values = c.loop-place.invariant.6.extends.0 in
    let lt : place < length list = c.loop-place-test.true in
    (next_watched first old lists values now gone list place base read h taken so place (omega arith) lt).two

pub visit_clause-requires-clause-watched : goal.visit_clause-requires-clause-watched
visit_clause-requires-clause-watched g c =
    let first = c.args.packed.now in
    let lists = c.args.watches.now in
    let values = c.args.trail.now.values.items in
    let old = c.loop-place.packed in
    let now = c.loop-place.trail.values.items in
    let gone = c.args.gone in
    let list = c.as_slice-places.result.now in
    let place = c.loop-place.place in
    let i = get_or list place 0 in
    let base = c.args.steps.now in
    let read = c.loop-place.steps in
    let so = c.loop-place.invariant.0 in
    let taken : list ≡ list_at lists (slot gone) = c.as_slice-places.ensures ∙ c.take-list.ensures.list in
    let h = listed c.args.packed.now c.args.watches.now c.args.trail.now c.requires.watching c.args.gone c.requires.gone in
    let size : length now ≡ length values = c.loop-place.invariant.6.extends.0 in
    let lt : place < length list = c.loop-place-test.true in
    (next_watched first old lists values now gone list place base read h taken so place (omega arith) lt).watched

pub add-requires-in-Moved : goal.add-requires-in-Moved
add-requires-in-Moved g c =
    let first = c.args.packed.now in
    let lists = c.args.watches.now in
    let values = c.args.trail.now.values.items in
    let old = c.loop-place.packed in
    let now = c.loop-place.trail.values.items in
    let gone = c.args.gone in
    let list = c.as_slice-places.result.now in
    let place = c.loop-place.place in
    let i = get_or list place 0 in
    let base = c.args.steps.now in
    let read = c.loop-place.steps in
    let so = c.loop-place.invariant.0 in
    let taken : list ≡ list_at lists (slot gone) = c.as_slice-places.ensures ∙ c.take-list.ensures.list in
    let h = listed c.args.packed.now c.args.watches.now c.args.trail.now c.requires.watching c.args.gone c.requires.gone in
    let size : length now ≡ length values = c.loop-place.invariant.6.extends.0 in
    let lt : place < length list = c.loop-place-test.true in
    let watched = next_watched first old lists values now gone list place base read h taken so place (omega arith) lt in
    let range = next_range first old lists values now gone list place base read h taken so c.requires.watching.range size place (omega arith) lt in
    let visited = c.in-Moved.ensures.visited in
    let in' = moved_in_range old c.visit_clause.new.packed now i gone c.in-Moved.lit (length now) visited watched.two range in
    rw c.loop-place.invariant.2 (slot_below c.in-Moved.lit (length now) in')

pub assign-requires : goal.assign-requires
assign-requires g c =
    let first = c.args.packed.now in
    let lists = c.args.watches.now in
    let values = c.args.trail.now.values.items in
    let old = c.loop-place.packed in
    let now = c.loop-place.trail.values.items in
    let gone = c.args.gone in
    let list = c.as_slice-places.result.now in
    let place = c.loop-place.place in
    let i = get_or list place 0 in
    let base = c.args.steps.now in
    let read = c.loop-place.steps in
    let so = c.loop-place.invariant.0 in
    let taken : list ≡ list_at lists (slot gone) = c.as_slice-places.ensures ∙ c.take-list.ensures.list in
    let h = listed c.args.packed.now c.args.watches.now c.args.trail.now c.requires.watching c.args.gone c.requires.gone in
    let size : length now ≡ length values = c.loop-place.invariant.6.extends.0 in
    let lt : place < length list = c.loop-place-test.true in
    let watched = next_watched first old lists values now gone list place base read h taken so place (omega arith) lt in
    let range = next_range first old lists values now gone list place base read h taken so c.requires.watching.range size place (omega arith) lt in
    unit_in_range old c.visit_clause.new.packed now i gone c.in-Unit.lit (length now) c.in-Unit.ensures.visited watched.two range

pub loop-place-preserved : goal.loop-place-preserved
loop-place-preserved g c =
    let first = c.args.packed.now in
    let lists = c.args.watches.now in
    let values = c.args.trail.now.values.items in
    let old = c.loop-place.packed in
    let now = c.loop-place.trail.values.items in
    let gone = c.args.gone in
    let list = c.as_slice-places.result.now in
    let place = c.loop-place.place in
    let i = get_or list place 0 in
    let base = c.args.steps.now in
    let read = c.loop-place.steps in
    let so = c.loop-place.invariant.0 in
    let taken : list ≡ list_at lists (slot gone) = c.as_slice-places.ensures ∙ c.take-list.ensures.list in
    let h = listed c.args.packed.now c.args.watches.now c.args.trail.now c.requires.watching c.args.gone c.requires.gone in
    let size : length now ≡ length values = c.loop-place.invariant.6.extends.0 in
    let lt : place < length list = c.loop-place-test.true in
    let watched = next_watched first old lists values now gone list place base read h taken so place (omega arith) lt in
    let range = next_range first old lists values now gone list place base read h taken so c.requires.watching.range size place (omega arith) lt in
    let apart = list_apart first old lists values now gone list place base read h taken so in
    let twins = next_apart first old lists values now gone list place base read h taken so place (omega arith) lt in
    let new = c.visit_clause.new.packed in
    let later = c.match-visit_clause.trail.values.items in
    let false' = c.loop-place.invariant.1 in
    let but = c.loop-place.invariant.4 in
    let gone_in : gone.var < length now = rw size h.small in
    let grows : Within (held now) (held later) = elim c.match-visit_clause.branch [
      | in-Kept+in_ok-add-in-Kept w ↦ rw w.trail-is (λ l e. e)
      | in-Moved+in_ok-add-in-Moved w ↦ rw w.trail-is (λ l e. e)
      | in-Unit+in_ok-add-in-Unit+in_ok-assign-in-Unit w ↦ rw (w.trail-is, w.in_ok-assign-in-Unit.ensures.values)
          (Within-assigned now w.in-Unit.lit _ w.in-Unit.ensures.visited.outcome_is.2)
    ] in
    let permutes = visit_permutes old new now i gone c.visit_clause.result c.visit_clause.ensures.visited in
    let in_range = λ (l : Lit) (v : VisitIs old new now i gone (UnitAt l)). unit_in_range old new now i gone l (length now) v watched.two range in
    let visited = λ (outcome : Visit) (x : Lit) (v : VisitIs old new now i gone outcome) (second : at (clause_at new i) 1 ≡ x)
    (xv : x.var < length now) (absent : Contains (list_at c.loop-place.watches (slot x)) i → ⊥).
    index_visited (length now) old new c.loop-place.watches now gone x outcome list place i but lt refl apart
    v second xv watched.there watched.two twins absent in
    let more = λ (here : Here first old new values now later gone i).
    reaches_more first old new values now later gone c.visit_clause.result list place base read so lt c.visit_clause.ensures.visited grows here h.twins
    (list_watched first old lists values now gone list place base read h taken so place lt) c.loop-place.invariant.3 in (
      walks_more first old new values now later gone c.visit_clause.result list place base read c.visit_clause.new.steps so lt apart
          c.visit_clause.ensures.visited c.visit_clause.ensures.cost false' grows,
      grows (negated gone) false',
      elim c.match-visit_clause.branch [
        | in-Kept+in_ok-add-in-Kept w ↦ rw (w.watches-is, w.trail-is, w.in_ok-add-in-Kept.ensures, length-set) c.loop-place.invariant.2
        | in-Moved+in_ok-add-in-Moved w ↦ rw (w.watches-is, w.trail-is, w.in_ok-add-in-Moved.ensures, length-set) c.loop-place.invariant.2
        | in-Unit+in_ok-add-in-Unit+in_ok-assign-in-Unit w ↦
            rw (w.watches-is, w.trail-is, w.in_ok-add-in-Unit.ensures, w.in_ok-assign-in-Unit.ensures.values, length-set, length-set)
            c.loop-place.invariant.2
      ],
      more (elim c.match-visit_clause.branch [
        | in-Kept+in_ok-add-in-Kept w ↦ λ s s' is ins pair ne.
            reach_holds old new now later i gone s s' is.more ins false' grows (grows _ w.in-Kept.ensures.visited.outcome_is.1)
        | in-Moved+in_ok-add-in-Moved w ↦ λ s s' is ins pair ne.
            reach_moved old new now later i gone s s' is.more ins false' grows w.in-Moved.lit w.in-Moved.ensures.visited ne pair
        | in-Unit+in_ok-add-in-Unit+in_ok-assign-in-Unit w ↦ λ s s' is ins pair ne.
            reach_holds old new now later i gone s s' is.more ins false' grows
            (rw (w.trail-is, w.in_ok-assign-in-Unit.ensures.values, w.in-Unit.ensures.visited.outcome_is.0)
            (held_assigned now w.in-Unit.lit _ (in_range w.in-Unit.lit w.in-Unit.ensures.visited) refl))
      ]),
      elim c.match-visit_clause.branch [
        | in-Kept+in_ok-add-in-Kept w ↦ rw (w.watches-is, w.trail-is, w.in_ok-add-in-Kept.ensures)
            (visited Kept gone w.in-Kept.ensures.visited w.in-Kept.ensures.visited.outcome_is.0 gone_in (λ has. but.fresh i has place (omega arith) lt refl))
        | in-Moved+in_ok-add-in-Moved w ↦
            let v = w.in-Moved.ensures.visited in
            let lv = moved_in_range old new now i gone w.in-Moved.lit (length now) v watched.two range in
            let there = (list_watched first old lists values now gone list place base read h taken so place lt).there in
            rw (w.watches-is, w.trail-is, w.in_ok-add-in-Moved.ensures)
            (visited (Moved w.in-Moved.lit) w.in-Moved.lit v v.outcome_is.0 lv
            (moved_absent old new c.loop-place.watches now (length now) gone w.in-Moved.lit list place i but v
            false' lv watched.two (distinct_now first old i c.requires.watching.distinct so.permutes there)))
        | in-Unit+in_ok-add-in-Unit+in_ok-assign-in-Unit w ↦
            let v = w.in-Unit.ensures.visited in
            rw (w.watches-is, w.trail-is, w.in_ok-add-in-Unit.ensures, w.in_ok-assign-in-Unit.ensures.values, length-set)
            (visited (UnitAt w.in-Unit.lit) gone v v.outcome_is.1 gone_in (λ has. but.fresh i has place (omega arith) lt refl))
      ],
      elim c.match-visit_clause.branch [
        | in-Kept+in_ok-add-in-Kept w ↦ rw w.trail-is (trail_permuted old new c.loop-place.trail permutes c.loop-place.invariant.5)
        | in-Moved+in_ok-add-in-Moved w ↦ rw w.trail-is (trail_permuted old new c.loop-place.trail permutes c.loop-place.invariant.5)
        | in-Unit+in_ok-add-in-Unit+in_ok-assign-in-Unit w ↦
            visit_unit old new c.loop-place.trail c.match-visit_clause.trail i gone w.in-Unit.lit w.in-Unit.ensures.visited watched.there watched.two
            (in_range w.in-Unit.lit w.in-Unit.ensures.visited) c.loop-place.invariant.5 (rw w.trail-is w.in_ok-assign-in-Unit.ensures)
      ],
      elim c.match-visit_clause.branch [
        | in-Kept+in_ok-add-in-Kept w ↦ rw w.trail-is c.loop-place.invariant.6
        | in-Moved+in_ok-add-in-Moved w ↦ rw w.trail-is c.loop-place.invariant.6
        | in-Unit+in_ok-add-in-Unit+in_ok-assign-in-Unit w ↦
            lengthens_more c.args.trail.now c.loop-place.trail c.match-visit_clause.trail w.in-Unit.lit (Some i)
            (rw w.trail-is w.in_ok-assign-in-Unit.ensures)
            (in_range w.in-Unit.lit w.in-Unit.ensures.visited) w.in-Unit.ensures.visited.outcome_is.2 c.loop-place.invariant.6
      ],
    )

pub returns-in-Conflict-clause-cost : goal.returns-in-Conflict-clause-cost
returns-in-Conflict-clause-cost g c =
    let first = c.args.packed.now in
    let lists = c.args.watches.now in
    let values = c.args.trail.now.values.items in
    let old = c.loop-place.packed in
    let now = c.loop-place.trail.values.items in
    let gone = c.args.gone in
    let list = c.as_slice-places.result.now in
    let place = c.loop-place.place in
    let i = get_or list place 0 in
    let base = c.args.steps.now in
    let read = c.loop-place.steps in
    let so = c.loop-place.invariant.0 in
    let taken : list ≡ list_at lists (slot gone) = c.as_slice-places.ensures ∙ c.take-list.ensures.list in
    let h = listed c.args.packed.now c.args.watches.now c.args.trail.now c.requires.watching c.args.gone c.requires.gone in
    let size : length now ≡ length values = c.loop-place.invariant.6.extends.0 in
    let lt : place < length list = c.loop-place-test.true in
    let apart = list_apart first old lists values now gone list place base read h taken so in
    let new = c.visit_clause.new.packed in
    let v = c.in-Conflict.ensures.visited in
    let more = walks_more first old new values now now gone Conflict list place base read c.visit_clause.new.steps so lt apart
    v c.in-Conflict.ensures.cost c.loop-place.invariant.1 (λ l e. e) in
    rw (← taken) (walks_end first new values now list (place + 1) base c.visit_clause.new.steps more)

pub returns-in-Conflict-clause-outcome : goal.returns-in-Conflict-clause-outcome
returns-in-Conflict-clause-outcome g c =
    let first = c.args.packed.now in
    let lists = c.args.watches.now in
    let values = c.args.trail.now.values.items in
    let old = c.loop-place.packed in
    let now = c.loop-place.trail.values.items in
    let gone = c.args.gone in
    let list = c.as_slice-places.result.now in
    let place = c.loop-place.place in
    let i = get_or list place 0 in
    let base = c.args.steps.now in
    let read = c.loop-place.steps in
    let so = c.loop-place.invariant.0 in
    let taken : list ≡ list_at lists (slot gone) = c.as_slice-places.ensures ∙ c.take-list.ensures.list in
    let h = listed c.args.packed.now c.args.watches.now c.args.trail.now c.requires.watching c.args.gone c.requires.gone in
    let size : length now ≡ length values = c.loop-place.invariant.6.extends.0 in
    let lt : place < length list = c.loop-place-test.true in
    let watched = next_watched first old lists values now gone list place base read h taken so place (omega arith) lt in
    let v = c.in-Conflict.ensures.visited in
    (rw v.count watched.there, v.outcome_is.1)

pub returns-in-Conflict-clause-watching : goal.returns-in-Conflict-clause-watching
returns-in-Conflict-clause-watching g c =
    let first = c.args.packed.now in
    let lists = c.args.watches.now in
    let values = c.args.trail.now.values.items in
    let old = c.loop-place.packed in
    let now = c.loop-place.trail.values.items in
    let gone = c.args.gone in
    let list = c.as_slice-places.result.now in
    let place = c.loop-place.place in
    let i = get_or list place 0 in
    let base = c.args.steps.now in
    let read = c.loop-place.steps in
    let so = c.loop-place.invariant.0 in
    let taken : list ≡ list_at lists (slot gone) = c.as_slice-places.ensures ∙ c.take-list.ensures.list in
    let h = listed c.args.packed.now c.args.watches.now c.args.trail.now c.requires.watching c.args.gone c.requires.gone in
    let size : length now ≡ length values = c.loop-place.invariant.6.extends.0 in
    let lt : place < length list = c.loop-place-test.true in
    let apart = list_apart first old lists values now gone list place base read h taken so in
    let new = c.visit_clause.new.packed in
    let v = c.in-Conflict.ensures.visited in
    let more = walks_more first old new values now now gone Conflict list place base read c.visit_clause.new.steps so lt apart
    v c.in-Conflict.ensures.cost c.loop-place.invariant.1 (λ l e. e) in
    let index = index_done (length now) new c.loop-rest.watches gone list c.loop-rest.rest c.loop-rest-test.false c.loop-rest.invariant.1 in
    let sound = trail_permuted old new c.loop-place.trail (visit_permutes old new now i gone Conflict v) c.loop-place.invariant.5 in
    walked first new lists c.loop-rest.watches c.args.trail.now c.loop-place.trail c.requires.watching sound c.loop-place.invariant.6
    more.permutes index more.pairs more.grown

pub returns-clause-watching : goal.returns-clause-watching
returns-clause-watching g c =
    let now = c.loop-place.trail.values.items in
    let so = c.loop-place.invariant.0 in
    let index = index_done (length now) c.loop-place.packed c.loop-place.watches c.args.gone c.as_slice-places.result.now c.loop-place.place
    c.loop-place-test.false c.loop-place.invariant.4 in
    walked c.args.packed.now c.loop-place.packed c.args.watches.now c.loop-place.watches c.args.trail.now c.loop-place.trail c.requires.watching
    c.loop-place.invariant.5 c.loop-place.invariant.6 so.permutes index so.pairs so.grown

pub returns-clause-outcome : goal.returns-clause-outcome
returns-clause-outcome g c =
    reaches_end c.args.trail.now.values.items c.loop-place.trail.values.items c.args.packed.now c.loop-place.packed c.args.gone
    c.as_slice-places.result.now c.loop-place.place c.loop-place-test.false c.loop-place.invariant.3

pub loop-place-init : goal.loop-place-init
loop-place-init g c =
    let first = c.args.packed.now in
    let values = c.args.trail.now.values.items in
    let h = listed c.args.packed.now c.args.watches.now c.args.trail.now c.requires.watching c.args.gone c.requires.gone in
    let list = c.as_slice-places.result.now in
    let taken : list ≡ list_at c.args.watches.now (slot c.args.gone) = c.as_slice-places.ensures ∙ c.take-list.ensures.list in (
      record {
        permutes = record { count = refl; each = λ i. IsPermutation-refl _ };
        untouched = λ k le lt. refl;
        cost = omega arith;
        grown = λ l e. e;
        pairs = λ s t ins int all'. all';
      },
      c.requires.gone,
      rw (c.take-list.ensures.emptied, length-set) c.requires.watching.index.slots,
      reaches_none values first c.args.gone list c.requires.gone (subst (IsComplete first c.args.gone) (sym taken) h.complete),
      rw (c.take-list.ensures.emptied, taken)
          (index_taken (length values) first c.args.watches.now c.args.gone h.small c.requires.watching.index),
      c.requires.watching.sound,
      lengthens_none c.args.trail.now,
    )

pub loop-rest-init : goal.loop-rest-init
loop-rest-init g c =
    let first = c.args.packed.now in
    let lists = c.args.watches.now in
    let values = c.args.trail.now.values.items in
    let old = c.loop-place.packed in
    let now = c.loop-place.trail.values.items in
    let gone = c.args.gone in
    let list = c.as_slice-places.result.now in
    let place = c.loop-place.place in
    let i = get_or list place 0 in
    let base = c.args.steps.now in
    let read = c.loop-place.steps in
    let so = c.loop-place.invariant.0 in
    let taken : list ≡ list_at lists (slot gone) = c.as_slice-places.ensures ∙ c.take-list.ensures.list in
    let h = listed c.args.packed.now c.args.watches.now c.args.trail.now c.requires.watching c.args.gone c.requires.gone in
    let size : length now ≡ length values = c.loop-place.invariant.6.extends.0 in
    let lt : place < length list = c.loop-place-test.true in
    let watched = next_watched first old lists values now gone list place base read h taken so place (omega arith) lt in
    let apart = list_apart first old lists values now gone list place base read h taken so in
    let twins = next_apart first old lists values now gone list place base read h taken so place (omega arith) lt in
    let gone_in : gone.var < length now = rw size h.small in
    let but = c.loop-place.invariant.4 in
    let v = c.in-Conflict.ensures.visited in (
      rw (c.in_ok-add-in-Conflict.ensures, length-set) c.loop-place.invariant.2,
      rw c.in_ok-add-in-Conflict.ensures
          (index_visited (length now) old c.visit_clause.new.packed c.loop-place.watches now gone gone Conflict list place i but
          lt refl apart v v.outcome_is.0 gone_in watched.there watched.two twins (λ has. but.fresh i has place (omega arith) lt refl)),
    )

pub loop-rest-preserved : goal.loop-rest-preserved
loop-rest-preserved g c =
    let first = c.args.packed.now in
    let lists = c.args.watches.now in
    let values = c.args.trail.now.values.items in
    let old = c.loop-place.packed in
    let now = c.loop-place.trail.values.items in
    let gone = c.args.gone in
    let list = c.as_slice-places.result.now in
    let place = c.loop-place.place in
    let i = get_or list place 0 in
    let base = c.args.steps.now in
    let read = c.loop-place.steps in
    let so = c.loop-place.invariant.0 in
    let taken : list ≡ list_at lists (slot gone) = c.as_slice-places.ensures ∙ c.take-list.ensures.list in
    let h = listed c.args.packed.now c.args.watches.now c.args.trail.now c.requires.watching c.args.gone c.requires.gone in
    let size : length now ≡ length values = c.loop-place.invariant.6.extends.0 in
    let lt : place < length list = c.loop-place-test.true in
    let apart = list_apart first old lists values now gone list place base read h taken so in
    let new = c.visit_clause.new.packed in
    let v = c.in-Conflict.ensures.visited in
    let more = walks_more first old new values now now gone Conflict list place base read c.visit_clause.new.steps so lt apart
    v c.in-Conflict.ensures.cost c.loop-place.invariant.1 (λ l e. e) in
    let gone_in : gone.var < length now = rw size h.small in
    let k = c.loop-rest.rest in
    let kl : k < length list = c.loop-rest-test.true in
    let w = next_watched first new lists values now gone list (place + 1) base c.visit_clause.new.steps h taken more k (omega arith) kl in
    let twins = next_apart first new lists values now gone list (place + 1) base c.visit_clause.new.steps h taken more k (omega arith) kl in (
      rw (c.in_ok-add-in-Conflict-2.ensures, length-set) c.loop-rest.invariant.0,
      rw c.in_ok-add-in-Conflict-2.ensures
          (index_back (length now) new c.loop-rest.watches gone list k (get_or list k 0) c.loop-rest.invariant.1 kl refl apart gone_in w twins),
    )
