use Rattle.std.proofs.Common.{arith}
use Rattle.lv_sat.proofs.Beginning.{begins_cut, begins_marking, conflict_late, analysis_reads}
use Rattle.lv_sat.proofs.Resolving.{cut_extends, conflict_refutes}
use Rattle.lv_sat.proofs.analysis.analyse.Goals as goal

pub mark_clause-requires-clause-watching : goal.mark_clause-requires-clause-watching
mark_clause-requires-clause-watching g c =
    begins_cut c.args.packed.now c.args.trail.now c.in_ok-analysis.analysis c.requires.sound c.requires.range c.requires.decided c.in_ok-analysis.ensures

pub resolve-requires-clause-of_trail : goal.resolve-requires-clause-of_trail
resolve-requires-clause-of_trail g c =
    cut_extends c.args.packed.now c.args.trail.now c.in_ok-analysis.analysis c.mark_clause.new.self c.mark_clause.ensures.marks.extends
    (begins_cut c.args.packed.now c.args.trail.now c.in_ok-analysis.analysis c.requires.sound c.requires.range c.requires.decided c.in_ok-analysis.ensures)

pub resolve-requires-clause-marking : goal.resolve-requires-clause-marking
resolve-requires-clause-marking g c = c.mark_clause.ensures.marks.extends.marking
    (begins_marking c.args.trail.now c.in_ok-analysis.analysis c.in_ok-analysis.ensures)

pub resolve-requires-clause-lowest : goal.resolve-requires-clause-lowest
resolve-requires-clause-lowest g c =
    conflict_late c.args.packed.now c.args.trail.now c.in_ok-analysis.analysis c.mark_clause.new.self c.args.conflict (resolve-requires-clause-of_trail g c)
    (resolve-requires-clause-marking g c) c.requires.conflict c.mark_clause.ensures.marks c.requires.settled

pub resolve-requires-clause-refutes : goal.resolve-requires-clause-refutes
resolve-requires-clause-refutes g c =
    conflict_refutes c.args.packed.now c.args.trail.now c.in_ok-analysis.analysis c.mark_clause.new.self c.args.conflict (resolve-requires-clause-of_trail g c)
    c.requires.conflict c.mark_clause.ensures.marks

pub returns-clause-cost : goal.returns-clause-cost
returns-clause-cost g c =
    let a = c.mark_clause.ensures.cost in
    let b = c.resolve.ensures.cost in
    let d = analysis_reads c.args.packed.now c.args.trail.now c.requires.sound c.args.conflict c.requires.conflict in
    omega (arith, a, b, d)
