use Rattle.std.proofs.Common.{rules, ◌≡◌, ◌≤◌, length, subst, arith}
use Rattle.lv_cnf.specs.declared.literal.Lit.{Lit}
use Rattle.lv_cnf.specs.Packed.{at, clause_at}
use Rattle.lv_watch.specs.Values.{FalseAt}
use Rattle.lv_sat.specs.Analysis.{IsCovered}
use Rattle.lv_sat.proofs.Marking.{extends_none, extends_trans, covered_here, covers_more, covers_all, false_inside}
use Rattle.lv_sat.proofs.analysis.Analysis.mark_clause.Goals as goal
use Rattle.lv_sat.proofs.analysis.Analysis.mark_clause.Goals.{in-Some, in-None}

pub loop-place-init : goal.loop-place-init
loop-place-init g c = (extends_none c.args.self.now, λ k lt. absurd (omega arith), omega arith)

pub mark-requires : goal.mark-requires
mark-requires g c =
    let lt = false_inside c.args.packed.now c.args.trail.now c.literal-lit.result c.in-Some.false_at c.requires.watching.sound c.in-Some.ensures in
    let a = c.requires.watching.size in
    let b = c.loop-place.invariant.0.size in
    omega (arith, lt, a, b)

pub loop-place-preserved : goal.loop-place-preserved
loop-place-preserved g c =
    let t = c.args.trail.now in
    let old = c.loop-place.self in
    let place = c.loop-place.place in
    let lits = clause_at c.args.packed.now c.args.clause in
    let is : c.literal-lit.result ≡ at lits place = c.literal-lit.ensures.value in
    let cost = c.loop-place.invariant.2 in
    let one = c.literal-lit.ensures.steps in
    elim c.match-false_place.branch [
      | in-Some w ↦
          let f : FalseAt t.values.items (at lits place) w.in-Some.false_at = subst (λ (m : Lit). FalseAt t.values.items m w.in-Some.false_at) is
          w.in-Some.ensures in
          let x = w.mark.ensures.extends in
          let cov = covered_here old w.mark.new.self t (at lits place) w.in-Some.false_at w.mark.ensures f in
          rw w.self-is (
            extends_trans c.args.self.now old w.mark.new.self c.loop-place.invariant.0 x,
            covers_more old w.mark.new.self t lits place x cov c.loop-place.invariant.1,
            omega (arith, cost, one),
          )
      | in-None w ↦
          let cov : IsCovered old t (at lits place) = subst (IsCovered old t) is (λ i f le. absurd (w.in-None.ensures i f)) in
          rw w.self-is (c.loop-place.invariant.0, covers_more old old t lits place (extends_none old) cov c.loop-place.invariant.1, omega (arith, cost, one))
    ]

pub returns-clause-marks : goal.returns-clause-marks
returns-clause-marks g c =
    let lits = clause_at c.args.packed.now c.args.clause in
    let all' : length lits ≤ c.loop-place.place = search rules in
    covers_all c.args.self.now c.loop-place.self c.args.trail.now lits c.loop-place.invariant.0 (λ k lt. c.loop-place.invariant.1 k (omega (arith, lt, all')))
