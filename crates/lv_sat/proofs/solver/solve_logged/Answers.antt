use Rattle.std.proofs.Common.{rules, ◌≡◌, ◌<◌, ◌∙◌, None, false, [], length, refl, sym, ap, subst, arith}
use Rattle.std.specs.Prelude.{map}
use Rattle.lv_propagate.specs.Potential.{squares}
use Rattle.lv_propagate.specs.State.{EndsIn, CostIs}
use Rattle.lv_sat.specs.Search.{sign, FreeIs}
use Rattle.lv_sat.specs.Verdict.{EndingIs}
use Rattle.lv_sat.specs.declared.search.Search.{Search}
use Rattle.lv_sat.proofs.Running.{ran, stuck, unsat, unsat_at_once, learned_running, learned_work, sound_learned, learned_cost, one_more}
use Rattle.lv_sat.proofs.Running.{decided_running, decided_work, sat, solved, none_logged, reads_now, reads_more, not_so, so_is}
use Rattle.lv_sat.proofs.solver.solve_logged.Goals as goal

pub returns-then-not-loaded-clause-solved : goal.returns-then-not-loaded-clause-solved
returns-then-not-loaded-clause-solved g c =
    let cs = c.args.clauses.now in
    let f : c.in_ok-loaded.loaded ≡ false = search rules in
    let loads = c.in_ok-loaded.ensures.loads in
    let empty = loads.refuted f in
    let log : c.ended.result.log ≡ [] = c.ended.ensures.log ∙ c.in_ok-search.ensures.log in
    none_logged cs c.args.budget c.ended.result log
    (subst (EndingIs cs c.args.budget c.ended.result.log) (sym c.ended.ensures.ending) (unsat_at_once cs.list (rw c.as_slice.ensures at empty)))

pub returns-then-not-has_decided-clause-solved : goal.returns-then-not-has_decided-clause-solved
returns-then-not-has_decided-clause-solved g c =
    let cs = c.args.clauses.now in
    let s = c.loop-search.search in
    let e = c.in_ok-conflict.ensures in
    let t : Search = record { state = c.propagate.new.self; log = s.log } in
    let cost = subst (CostIs s.state c.propagate.new.self c.loop-search.steps c.propagate.new.steps) c.in-Some.is e.cost in
    let ends = subst (EndsIn c.propagate.new.self) c.in-Some.is e.ends in
    let run = stuck cs.vars c.args.budget cs.list s c.propagate.new.self c.args.steps.now c.loop-search.steps c.propagate.new.steps c.loop-search.invariant
    e.watching e.permutes e.longer c.in-Some.conflict cost in
    let none = not_so c.has_decided.result (0 < length c.propagate.new.self.trail.starts.items) c.has_decided.ensures c.if-not-has_decided.true in
    let room = run.room in
    solved cs c.args.budget t c.ended-then-not-has_decided.result run.sound (omega (arith, room)) c.ended-then-not-has_decided.ensures.log
    (subst (EndingIs cs c.args.budget c.ended-then-not-has_decided.result.log) (sym c.ended-then-not-has_decided.ensures.ending)
    (unsat cs.vars c.args.budget cs.list t c.in-Some.conflict run.sound ends none))

pub returns-then-not-has_decided-clause-cost : goal.returns-then-not-has_decided-clause-cost
returns-then-not-has_decided-clause-cost g c =
    let cs = c.args.clauses.now in
    let s = c.loop-search.search in
    let e = c.in_ok-conflict.ensures in
    let cost = subst (CostIs s.state c.propagate.new.self c.loop-search.steps c.propagate.new.steps) c.in-Some.is e.cost in
    let run = stuck cs.vars c.args.budget cs.list s c.propagate.new.self c.args.steps.now c.loop-search.steps c.propagate.new.steps c.loop-search.invariant
    e.watching e.permutes e.longer c.in-Some.conflict cost in
    rw c.ended-then-not-has_decided.ensures.log run.cost

pub returns-then-is_full-clause-solved : goal.returns-then-is_full-clause-solved
returns-then-is_full-clause-solved g c =
    let cs = c.args.clauses.now in
    let s = c.loop-search.search in
    let e = c.in_ok-conflict.ensures in
    let t : Search = record { state = c.propagate.new.self; log = s.log } in
    let cost = subst (CostIs s.state c.propagate.new.self c.loop-search.steps c.propagate.new.steps) c.in-Some.is e.cost in
    let run = stuck cs.vars c.args.budget cs.list s c.propagate.new.self c.args.steps.now c.loop-search.steps c.propagate.new.steps c.loop-search.invariant
    e.watching e.permutes e.longer c.in-Some.conflict cost in
    let learns = c.in_ok-learn-in-Some.ensures in
    let u = c.learn.new.self in
    let full = so_is c.is_full.result (length u.log.items ≡ c.args.budget) c.is_full.ensures c.if-is_full.true in
    let sound = sound_learned cs.vars c.args.budget cs.list t u c.args.steps.now c.propagate.new.steps c.learn.new.steps run learns.learns learns.cost in
    let log : c.ended-then-is_full.result.log ≡ u.log.items = c.ended-then-is_full.ensures.log in
    solved cs c.args.budget u c.ended-then-is_full.result sound (omega (arith, full)) log
    (subst (EndingIs cs c.args.budget c.ended-then-is_full.result.log) (sym c.ended-then-is_full.ensures.ending) (ap length log ∙ full))

pub returns-then-is_full-clause-cost : goal.returns-then-is_full-clause-cost
returns-then-is_full-clause-cost g c =
    let cs = c.args.clauses.now in
    let s = c.loop-search.search in
    let e = c.in_ok-conflict.ensures in
    let t : Search = record { state = c.propagate.new.self; log = s.log } in
    let cost = subst (CostIs s.state c.propagate.new.self c.loop-search.steps c.propagate.new.steps) c.in-Some.is e.cost in
    let run = stuck cs.vars c.args.budget cs.list s c.propagate.new.self c.args.steps.now c.loop-search.steps c.propagate.new.steps c.loop-search.invariant
    e.watching e.permutes e.longer c.in-Some.conflict cost in
    let learns = c.in_ok-learn-in-Some.ensures in
    let u = c.learn.new.self in
    let a = learned_cost cs.vars c.args.budget cs.list t u c.args.steps.now c.propagate.new.steps c.learn.new.steps run learns.learns learns.cost in
    let one = one_more cs.vars c.args.budget cs.list t u c.args.steps.now c.propagate.new.steps c.learn.new.steps run learns.learns learns.cost in
    let b = reads_more (squares cs.list) cs.vars (length s.log.items) (length u.log.items) one in
    rw c.ended-then-is_full.ensures.log (omega (arith, a, b))

pub loop-search-preserved-else-is_full : goal.loop-search-preserved-else-is_full
loop-search-preserved-else-is_full g c =
    let cs = c.args.clauses.now in
    let s = c.loop-search.search in
    let e = c.in_ok-conflict.ensures in
    let t : Search = record { state = c.propagate.new.self; log = s.log } in
    let cost = subst (CostIs s.state c.propagate.new.self c.loop-search.steps c.propagate.new.steps) c.in-Some.is e.cost in
    let run = stuck cs.vars c.args.budget cs.list s c.propagate.new.self c.args.steps.now c.loop-search.steps c.propagate.new.steps c.loop-search.invariant
    e.watching e.permutes e.longer c.in-Some.conflict cost in
    let learns = c.in_ok-learn-in-Some.ensures in
    learned_running cs.vars c.args.budget cs.list t c.learn.new.self c.args.steps.now c.propagate.new.steps c.learn.new.steps run learns.learns learns.cost
    (not_so c.is_full.result (length c.learn.new.self.log.items ≡ c.args.budget) c.is_full.ensures c.if-is_full.false)

pub loop-search-smaller-else-is_full : goal.loop-search-smaller-else-is_full
loop-search-smaller-else-is_full g c =
    let cs = c.args.clauses.now in
    let s = c.loop-search.search in
    let e = c.in_ok-conflict.ensures in
    let t : Search = record { state = c.propagate.new.self; log = s.log } in
    let cost = subst (CostIs s.state c.propagate.new.self c.loop-search.steps c.propagate.new.steps) c.in-Some.is e.cost in
    let run = stuck cs.vars c.args.budget cs.list s c.propagate.new.self c.args.steps.now c.loop-search.steps c.propagate.new.steps c.loop-search.invariant
    e.watching e.permutes e.longer c.in-Some.conflict cost in
    let learns = c.in_ok-learn-in-Some.ensures in
    learned_work cs.vars c.args.budget cs.list t c.learn.new.self c.args.steps.now c.propagate.new.steps c.learn.new.steps run learns.learns learns.cost s refl

pub loop-search-preserved : goal.loop-search-preserved
loop-search-preserved g c =
    let cs = c.args.clauses.now in
    let s = c.loop-search.search in
    let e = c.in_ok-conflict.ensures in
    let t : Search = record { state = c.propagate.new.self; log = s.log } in
    let cost = subst (CostIs s.state c.propagate.new.self c.loop-search.steps c.propagate.new.steps) c.in-None.is e.cost in
    let ends = subst (EndsIn c.propagate.new.self) c.in-None.is e.ends in
    let run = ran cs.vars c.args.budget cs.list s c.propagate.new.self c.args.steps.now c.loop-search.steps c.propagate.new.steps c.loop-search.invariant
    e.watching e.permutes e.longer ends cost in
    decided_running cs.vars c.args.budget cs.list t c.decide.new.self c.args.steps.now c.propagate.new.steps _ run c.in_ok-decide-in-Some-free_variable.ensures

pub loop-search-smaller : goal.loop-search-smaller
loop-search-smaller g c =
    let cs = c.args.clauses.now in
    let s = c.loop-search.search in
    let e = c.in_ok-conflict.ensures in
    let t : Search = record { state = c.propagate.new.self; log = s.log } in
    let cost = subst (CostIs s.state c.propagate.new.self c.loop-search.steps c.propagate.new.steps) c.in-None.is e.cost in
    let ends = subst (EndsIn c.propagate.new.self) c.in-None.is e.ends in
    let run = ran cs.vars c.args.budget cs.list s c.propagate.new.self c.args.steps.now c.loop-search.steps c.propagate.new.steps c.loop-search.invariant
    e.watching e.permutes e.longer ends cost in
    decided_work cs.vars c.args.budget cs.list t c.decide.new.self c.args.steps.now c.propagate.new.steps _ run
    c.in_ok-decide-in-Some-free_variable.ensures s refl e.longer.longer

pub returns-in-None-free_variable-clause-solved : goal.returns-in-None-free_variable-clause-solved
returns-in-None-free_variable-clause-solved g c =
    let cs = c.args.clauses.now in
    let s = c.loop-search.search in
    let e = c.in_ok-conflict.ensures in
    let t : Search = record { state = c.propagate.new.self; log = s.log } in
    let cost = subst (CostIs s.state c.propagate.new.self c.loop-search.steps c.propagate.new.steps) c.in-None.is e.cost in
    let ends = subst (EndsIn c.propagate.new.self) c.in-None.is e.ends in
    let run = ran cs.vars c.args.budget cs.list s c.propagate.new.self c.args.steps.now c.loop-search.steps c.propagate.new.steps c.loop-search.invariant
    e.watching e.permutes e.longer ends cost in
    let V = t.state.trail.values.items in
    let full : FreeIs V None = rw c.as_slice-in-None.ensures.value at c.in-None-free_variable.ensures in
    let is : c.in_ok-values-in-None-free_variable.values ≡ map sign V = rw c.as_slice-in-None-free_variable.ensures.value at
    c.in_ok-values-in-None-free_variable.ensures in
    let room = run.room in
    solved cs c.args.budget t c.ended-in-None-free_variable.result run.sound (omega (arith, room)) c.ended-in-None-free_variable.ensures.log
    (subst (EndingIs cs c.args.budget c.ended-in-None-free_variable.result.log) (sym c.ended-in-None-free_variable.ensures.ending)
    (sat cs.vars c.args.budget cs.list t c.in_ok-values-in-None-free_variable.values c.args.steps.now c.propagate.new.steps run ends.1 full
    c.requires.range is))

pub returns-in-None-free_variable-clause-cost : goal.returns-in-None-free_variable-clause-cost
returns-in-None-free_variable-clause-cost g c =
    let cs = c.args.clauses.now in
    let s = c.loop-search.search in
    let e = c.in_ok-conflict.ensures in
    let t : Search = record { state = c.propagate.new.self; log = s.log } in
    let cost = subst (CostIs s.state c.propagate.new.self c.loop-search.steps c.propagate.new.steps) c.in-None.is e.cost in
    let ends = subst (EndsIn c.propagate.new.self) c.in-None.is e.ends in
    let run = ran cs.vars c.args.budget cs.list s c.propagate.new.self c.args.steps.now c.loop-search.steps c.propagate.new.steps c.loop-search.invariant
    e.watching e.permutes e.longer ends cost in
    rw c.ended-in-None-free_variable.ensures.log (reads_now cs.vars c.args.budget cs.list t c.args.steps.now c.propagate.new.steps run)
