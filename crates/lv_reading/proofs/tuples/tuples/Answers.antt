use Rattle.std.proofs.Common.{sym, ◌∙◌, arith}
use Rattle.std.proofs.lemmas.Result.{err_from_is_err_and}
use Rattle.lv_reading.specs.Structures.{tuple_in}
use Rattle.lv_fault.proofs.BehindLaws.{stops}
use Rattle.lv_reading.proofs.TupleLaws.{tuples_end, tuples_go_on, tuples_split}
use Rattle.lv_reading.proofs.tuples.tuples.Goals as goal

pub returns-in_err-tuple-clause-given : goal.returns-in_err-tuple-clause-given
returns-in_err-tuple-clause-given c =
    let p = err_from_is_err_and c.from_residual.result c.from_residual.ensures.1 in
    let sizes = c.args.m.now.sizes in
    let sorts = c.args.sorts.now in
    let split = tuples_split sizes sorts c.loop-tree.tuples.items c.args.items.now c.loop-tree.tree-index c.tree-item.result c.tree-item.is (omega arith) in
    rw (p.1, p.2) (stops c.in_err-tuple.field-0.0 (tuple_in sizes sorts c.tree-item.result) _ _ c.in_err-tuple.ensures.given (sym split ∙ c.loop-tree.invariant.0))

pub loop-tree-preserved : goal.loop-tree-preserved
loop-tree-preserved c =
    rw c.in_ok-push.ensures.items (tuples_go_on c.args.m.now.sizes c.args.sorts.now c.loop-tree.tuples.items c.args.items.now c.loop-tree.tree-index c.tree-item.result c.in_ok-tuple.field-0 _ c.tree-item.is (omega arith) c.in_ok-tuple.ensures.given c.in_ok-tuple.ensures.in_range c.loop-tree.invariant)

pub returns-clause-given : goal.returns-clause-given
returns-clause-given c = tuples_end c.args.m.now.sizes c.args.sorts.now c.loop-tree.tuples.items c.args.items.now c.loop-tree.tree-index _ (omega arith) c.loop-tree.invariant.0
