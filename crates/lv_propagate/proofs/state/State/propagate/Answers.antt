use Rattle.std.proofs.Common.{rules, ◌≡◌, ◌+◌, ◌<◌, length, refl, ap, subst, arith, ◌∙◌}
use Rattle.lv_cnf.specs.Literals.{negated}
use Rattle.lv_cnf.proofs.Logic.{negated-negated}
use Rattle.lv_cnf.specs.Packed.{at}
use Rattle.lv_watch.specs.Values.{held, before}
use Rattle.lv_watch.specs.Lists.{WalkIs}
use Rattle.lv_watch.proofs.Walking.{permutes_trans}
use Rattle.lv_watch.proofs.Trails.{lengthens_trans}
use Rattle.lv_watch.proofs.Places.{trail_short, place_held}
use Rattle.lv_propagate.proofs.Potential.{phi_le}
use Rattle.lv_propagate.proofs.Walks.{walked_done, walk_paid}
use Rattle.lv_propagate.proofs.state.State.propagate.Goals as goal

pub walk_watches-requires-clause-gone : goal.walk_watches-requires-clause-gone
walk_watches-requires-clause-gone g c =
    let s = c.loop-self.self in
    let lt : s.head < length s.trail.lits.items = search rules in
    rw (c.negated-gone.ensures, c.lit_at.ensures)
    (ap (held s.trail.values.items) (negated-negated (at s.trail.lits.items s.head)) ∙ place_held s.packed s.trail c.loop-self.invariant.0.0.sound s.head lt)

pub returns-in-Some-clause-permutes : goal.returns-in-Some-clause-permutes
returns-in-Some-clause-permutes g c =
    permutes_trans c.args.self.now.packed c.loop-self.self.packed c.walk_watches.new.packed c.loop-self.invariant.1 c.in_ok-conflict.ensures.permutes

pub loop-self-preserved : goal.loop-self-preserved
loop-self-preserved g c =
    let s = c.loop-self.self in
    let n = c.walk_watches.new in
    let e = c.in_ok-conflict.ensures in
    let gone = c.negated-gone.result in
    let lt : s.head < length s.trail.lits.items = search rules in
    let is : gone ≡ negated (at s.trail.lits.items s.head) = rw (c.negated-gone.ensures, c.lit_at.ensures) refl in
    let watching = c.loop-self.invariant.0.0 in
    let outcome = subst (WalkIs s.trail.values.items n.trail.values.items s.packed n.packed gone) c.in-None.is e.outcome in
    let paid' = walk_paid s.packed n.packed s.watches s.trail n.trail watching e.longer e.permutes s.head gone lt is in
    let was = c.loop-self.invariant.3 in
    let cost = e.cost in (
      (
        e.watching,
        walked_done s.packed n.packed s.watches s.trail n.trail watching e.longer e.permutes s.head gone lt is c.loop-self.invariant.0.1 outcome,
      ),
      permutes_trans c.args.self.now.packed s.packed n.packed c.loop-self.invariant.1 e.permutes,
      lengthens_trans c.args.self.now.trail s.trail n.trail c.loop-self.invariant.2 e.longer,
      omega (arith, paid', was, cost),
    )

pub returns-in-Some-clause-cost : goal.returns-in-Some-clause-cost
returns-in-Some-clause-cost g c =
    let s = c.loop-self.self in
    let n = c.walk_watches.new in
    let e = c.in_ok-conflict.ensures in
    let lt : s.head < length s.trail.lits.items = search rules in
    let is : c.negated-gone.result ≡ negated (at s.trail.lits.items s.head) = rw (c.negated-gone.ensures, c.lit_at.ensures) refl in
    let paid' = walk_paid s.packed n.packed s.watches s.trail n.trail c.loop-self.invariant.0.0 e.longer e.permutes s.head c.negated-gone.result lt is in
    let most = phi_le (before n.trail.values.items (s.head + 1)) n.packed in
    let was = c.loop-self.invariant.3 in
    let cost = e.cost in
    omega (arith, paid', was, cost, most)

pub loop-self-smaller : goal.loop-self-smaller
loop-self-smaller g c =
    let s = c.loop-self.self in
    let lt : s.head < length s.trail.lits.items = search rules in
    let short = trail_short s.packed s.trail c.loop-self.invariant.0.0.sound in
    let same = c.in_ok-conflict.ensures.longer.extends.0 in
    omega (arith, lt, short, same)
