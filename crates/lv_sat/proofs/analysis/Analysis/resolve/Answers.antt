use Rattle.std.proofs.Common.{rules, ◌≡◌, ◌+◌, ◌-◌, ◌<◌, ◌≤◌, ◌∙◌, ℕ, Some, None, false, length, sym, subst, arith}
use Rattle.lv_cnf.specs.Packed.{at}
use Rattle.lv_watch.specs.Values.{value, reason_of}
use Rattle.lv_watch.proofs.Places.{place_small}
use Rattle.lv_sat.specs.Analysis.{mark_at}
use Rattle.lv_sat.proofs.Resolving.{cut_extends, reasons_all, walk_skip, walk_reason, walk_resolve, walk_end}
use Rattle.lv_sat.proofs.analysis.Analysis.resolve.Goals as goal
use Rattle.lv_sat.proofs.analysis.Analysis.resolve.Goals.{then-is_marked+in-Some, then-is_marked+in-None, else-is_marked}

pub reason_at-requires-clause-small : goal.reason_at-requires-clause-small
reason_at-requires-clause-small g c =
    place_small c.args.packed.now c.args.trail.now c.requires.of_trail.sound c.loop-self.place c.loop-self.invariant.inside

pub mark_clause-requires-clause-watching : goal.mark_clause-requires-clause-watching
mark_clause-requires-clause-watching g c =
    cut_extends c.args.packed.now c.args.trail.now c.args.self.now c.loop-self.self c.loop-self.invariant.extends c.requires.of_trail

pub mark_clause-requires-clause-clause : goal.mark_clause-requires-clause-clause
mark_clause-requires-clause-clause g c =
    let r = walk_reason c.args.packed.now c.args.trail.now c.args.self.now c.loop-self.self c.loop-self.place c.args.steps.now c.loop-self.steps
    c.requires.of_trail c.requires.marking
    c.loop-self.invariant c.loop-self-test.true (Some c.in-Some.clause) (sym c.in-Some.is ∙ c.reason_at.ensures) in
    let same : Some c.in-Some.clause ≡ Some r.0 = r.1 in
    let e : r.0 ≡ c.in-Some.clause = cc in
    subst (λ (n : ℕ). n < length c.args.packed.now) e r.2.there

pub loop-self-preserved : goal.loop-self-preserved
loop-self-preserved g c =
    let p = c.args.packed.now in
    let t = c.args.trail.now in
    let first = c.args.self.now in
    let now = c.loop-self.self in
    let place = c.loop-self.place in
    let base = c.args.steps.now in
    let read = c.loop-self.steps in
    let above = c.loop-self-test.true in
    let next : place - 1 + 1 ≡ place = omega (arith, above) in
    elim c.if-is_marked.branch [
      | then-is_marked+in-Some w ↦
          let r = walk_reason p t first now place base read c.requires.of_trail c.requires.marking c.loop-self.invariant above (Some w.in-Some.clause)
          (sym w.in-Some.is ∙ w.reason_at.ensures) in
          let same : Some w.in-Some.clause ≡ Some r.0 = r.1 in
          let e : r.0 ≡ w.in-Some.clause = cc in
          let is : reason_of (value t.values.items (at t.lits.items place).var) ≡ Some w.in-Some.clause = sym w.reason_at.ensures ∙ w.in-Some.is in
          rw (w.self-is, w.steps-is)
          (walk_resolve p t first now place base read c.requires.of_trail c.requires.marking c.loop-self.invariant above w.mark_clause.new.self
          w.in-Some.clause (place - 1)
          w.mark_clause.new.steps is (rw e at r.2) w.mark_clause.ensures.marks w.mark_clause.ensures.cost next)
      | then-is_marked+in-None w ↦
          let r = walk_reason p t first now place base read c.requires.of_trail c.requires.marking c.loop-self.invariant above None
          (sym w.in-None.is ∙ w.reason_at.ensures) in
          let none : None ≡ Some r.0 = r.1 in
          absurd (none_some r.0 none)
      | else-is_marked w ↦
          let off : mark_at now.marks.items place ≡ false = sym c.is_marked.ensures ∙ w.if-is_marked.false in
          rw (w.self-is, w.steps-is)
          (walk_skip p t first now place base read c.requires.of_trail c.requires.marking c.loop-self.invariant above off (place - 1) next)
    ]
  where
    none_some : (n : ℕ) → None ≡ Some n → ⊥
    none_some n e = cc

pub returns-clause-resolves : goal.returns-clause-resolves
returns-clause-resolves g c =
    let le : c.loop-self.place ≤ c.loop-self.self.lowest = search rules in
    walk_end c.args.packed.now c.args.trail.now c.args.self.now c.loop-self.self c.loop-self.place c.args.steps.now c.loop-self.steps
    c.requires.of_trail c.requires.marking
    c.loop-self.invariant le

pub returns-clause-cost : goal.returns-clause-cost
returns-clause-cost g c =
    let a = c.loop-self.invariant.cost in
    let b = reasons_all c.args.packed.now c.args.trail.now.values.items c.args.trail.now.lits.items (c.loop-self.place + 1) in
    omega (arith, a, b)
