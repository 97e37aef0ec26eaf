use Rattle.std.proofs.Common.{rules, ℕ, ◌≡◌, ◌≤◌, true, Some, None, length, subst, sym, arith}
use Rattle.lv_cnf.specs.Packed.{at}
use Rattle.lv_watch.specs.Values.{value, held}
use Rattle.lv_watch.specs.Visit.{IsFalse}
use Rattle.lv_watch.specs.Trail.{Assigns}
use Rattle.lv_propagate.proofs.Adding.{adds_kept, adds_false, adds_assigned}
use Rattle.lv_propagate.proofs.state.State.add.Goals as goal

pub returns-then-is_empty : goal.returns-then-is_empty
returns-then-is_empty c =
    let s = c.args.self.now in
    let e = c.in_ok-clause.ensures in
    let empty : length c.args.lits.now ≡ 0 = search rules in
    adds_false s c.attach.new.self c.args.lits.now c.requires.fresh c.requires.state c.requires.range c.requires.distinct e.index e.clauses e.head e.trail
    (λ k lt. absurd (omega (arith, lt, empty)))

pub returns-in-Fails : goal.returns-in-Fails
returns-in-Fails c =
    let s = c.args.self.now in
    let lits = c.args.lits.now in
    let e = c.in_ok-clause.ensures in
    let one : length lits ≡ 1 = search rules in
    let f : IsFalse s.trail.values.items (at lits 0) = rw e.trail at c.in-Fails.ensures in
    adds_false s c.attach.new.self lits c.requires.fresh c.requires.state c.requires.range c.requires.distinct e.index e.clauses e.head e.trail
    (λ k lt. let zero' : k ≡ 0 = omega (arith, lt, one) in subst (λ (n : ℕ). IsFalse s.trail.values.items (at lits n)) (sym zero') f)

pub returns-in-Holds : goal.returns-in-Holds
returns-in-Holds c =
    let s = c.args.self.now in
    let lits = c.args.lits.now in
    let e = c.in_ok-clause.ensures in
    let one : length lits ≡ 1 = search rules in
    let h : held s.trail.values.items (at lits 0) ≡ true = rw e.trail at c.in-Holds.ensures in
    adds_kept s c.attach.new.self lits c.requires.fresh c.requires.state c.requires.range c.requires.distinct e.index e.clauses e.head e.trail
    (omega (arith, one)) (λ o. h)

pub returns-in_ok-assign-in-Undecided : goal.returns-in_ok-assign-in-Undecided
returns-in_ok-assign-in-Undecided c =
    let s = c.args.self.now in
    let lits = c.args.lits.now in
    let e = c.in_ok-clause.ensures in
    let one : length lits ≡ 1 = search rules in
    let none : value s.trail.values.items (at lits 0).var ≡ None = rw e.trail at c.in-Undecided.ensures in
    let puts : Assigns s.trail c.assign.new.self (at lits 0) (Some (length s.packed)) = rw (e.trail, e.place) at c.in_ok-assign-in-Undecided.ensures in
    adds_assigned s (record {
      packed = c.attach.new.self.packed;
      watches = c.attach.new.self.watches;
      trail = c.assign.new.self;
      head =
          c.attach.new.self.head;
    }) lits
    c.requires.fresh c.requires.state c.requires.range c.requires.distinct e.index e.clauses e.head one none puts

pub returns-else-lits-eq1 : goal.returns-else-lits-eq1
returns-else-lits-eq1 c =
    let s = c.args.self.now in
    let lits = c.args.lits.now in
    let e = c.in_ok-clause.ensures in
    let ne : length lits ≡ 1 → ⊥ = search rules in
    let some : 1 ≤ length lits = search rules in
    adds_kept s c.attach.new.self lits c.requires.fresh c.requires.state c.requires.range c.requires.distinct e.index e.clauses e.head e.trail
    some (λ o. absurd (ne o))
