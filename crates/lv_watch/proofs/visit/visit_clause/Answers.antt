use Rattle.std.proofs.Common.{◌<◌, ◌≤◌, length}
use Rattle.lv_cnf.specs.Packed.{clause_at}
use Rattle.lv_watch.proofs.Visiting.{moved, range_turned}
use Rattle.lv_watch.proofs.visit.visit_clause.Goals as goal

pub replacement-requires-clause-range : goal.replacement-requires-clause-range
replacement-requires-clause-range g c =
    range_turned c.args.packed.now c.turn-other.new.packed (length c.args.trail.now.values.items) c.args.clause c.args.gone
    c.turn-other.ensures.turned c.requires.range

pub returns-in-Some-clause-visited : goal.returns-in-Some-clause-visited
returns-in-Some-clause-visited g c =
    let mid = c.turn-other.new.packed in
    let lt : c.args.clause < length mid = rw c.turn-other.ensures.turned.count c.requires.clause in
    let two : 2 ≤ length (clause_at mid c.args.clause) = rw c.turn-other.ensures.turned.same_length c.requires.two in
    rw c.swap.ensures (moved c.args.packed.now mid c.args.trail.now.values.items c.args.clause c.in-Some.place c.args.gone c.in-Some.lit
    lt two c.turn-other.ensures.turned c.in-Some.ensures.found)
