use Rattle.std.proofs.Common.{◌++◌, ◌∷◌, [], Some, length}
use Rattle.lv_cnf.specs.Packed.{at}
use Rattle.lv_watch.specs.Lists.{IsIndex}
use Rattle.lv_watch.specs.Trail.{Assigns}
use Rattle.lv_propagate.proofs.Adding.{asserted, size_kept, now_held}
use Rattle.lv_propagate.proofs.state.State.add_learned.Goals as goal

pub returns-clause-state : goal.returns-clause-state
returns-clause-state c =
    let s = c.args.self.now in
    let lits = c.args.lits.now in
    let mid = c.backjump.new.self in
    let e = c.in_ok-clause.ensures in
    let index : IsIndex (length mid.values.items) (s.packed ++ lits ∷ []) c.attach.new.self.watches = rw (← e.clauses) e.index in
    let puts : Assigns mid c.assign.new.self (at lits 0) (Some (length s.packed)) = rw (e.trail, e.place) at c.in_ok-assign.ensures in
    let both = asserted s.packed lits s.watches c.attach.new.self.watches s.trail mid c.assign.new.self c.args.bound c.requires.watching
    c.backjump.ensures c.requires.asserts index puts in
    rw (e.clauses, e.head, c.len-self.ensures) both

pub returns-clause-size : goal.returns-clause-size
returns-clause-size c =
    let s = c.args.self.now in
    let lits = c.args.lits.now in
    let mid = c.backjump.new.self in
    let e = c.in_ok-clause.ensures in
    let index : IsIndex (length mid.values.items) (s.packed ++ lits ∷ []) c.attach.new.self.watches = rw (← e.clauses) e.index in
    let puts : Assigns mid c.assign.new.self (at lits 0) (Some (length s.packed)) = rw (e.trail, e.place) at c.in_ok-assign.ensures in
    size_kept s.packed lits s.watches c.attach.new.self.watches s.trail mid c.assign.new.self c.args.bound c.requires.watching c.backjump.ensures
    c.requires.asserts index puts

pub returns-clause-holds : goal.returns-clause-holds
returns-clause-holds c =
    let s = c.args.self.now in
    let lits = c.args.lits.now in
    let mid = c.backjump.new.self in
    let e = c.in_ok-clause.ensures in
    let index : IsIndex (length mid.values.items) (s.packed ++ lits ∷ []) c.attach.new.self.watches = rw (← e.clauses) e.index in
    let puts : Assigns mid c.assign.new.self (at lits 0) (Some (length s.packed)) = rw (e.trail, e.place) at c.in_ok-assign.ensures in
    now_held s.packed lits s.watches c.attach.new.self.watches s.trail mid c.assign.new.self c.args.bound c.requires.watching c.backjump.ensures
    c.requires.asserts index puts
