use Rattle.std.proofs.Common.{rules, ◌<◌, ◌≤◌, length}
use Rattle.lv_propagate.proofs.Attaching.{index_short, index_pushed}
use Rattle.lv_propagate.proofs.state.State.attach.Goals as goal

pub returns-in_ok-add-2-clause-index : goal.returns-in_ok-add-2-clause-index
returns-in_ok-add-2-clause-index c =
    let two : 2 ≤ length c.args.lits.now = search rules in
    let place = c.in_ok-clause.ensures.place in
    rw (c.in_ok-clause.ensures.clauses, c.in_ok-add-2.ensures, c.in_ok-add.ensures, place)
    (index_pushed c.args.self.now.packed c.args.lits.now (length c.args.self.now.trail.values.items) c.args.self.now.watches two c.requires.distinct
    c.requires.range
    c.requires.index)

pub returns-else-lits-ge2-clause-index : goal.returns-else-lits-ge2-clause-index
returns-else-lits-ge2-clause-index c =
    let short : length c.args.lits.now < 2 = search rules in
    rw c.in_ok-clause.ensures.clauses (index_short c.args.self.now.packed c.args.lits.now (length c.args.self.now.trail.values.items)
    c.args.self.now.watches short c.requires.index)
