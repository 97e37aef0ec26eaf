use Rattle.std.proofs.Common.{arith}
use Rattle.std.proofs.lemmas.Result.{err_from_is_err_and}
use Rattle.lv_words.specs.Scopes.{scope_seen}
use Rattle.lv_syntax.proofs.UpdateLoop.{updates_go_on, updates_stop, updates_end}
use Rattle.lv_syntax.proofs.updates.read_updates.Goals as goal

pub returns-in_err-update : goal.returns-in_err-update
returns-in_err-update c =
    let p = err_from_is_err_and c.from_residual.result c.from_residual.ensures.1 in
    rw (p.1, p.2) (updates_stop c.in_err-update.field-0.0 c.args.known.now (scope_seen c.args.scope.now) c.loop-tree.updates c.args.items.now c.loop-tree.tree-index c.tree-item.result _ c.tree-item.is (omega arith) (rw c.as_slice.ensures.items at c.in_err-update.ensures) c.loop-tree.invariant)

pub loop-tree-preserved : goal.loop-tree-preserved
loop-tree-preserved c =
    rw c.in_ok-push.ensures.added (updates_go_on c.args.known.now (scope_seen c.args.scope.now) c.loop-tree.updates c.args.items.now c.loop-tree.tree-index c.tree-item.result c.in_ok-update.update _ c.tree-item.is (omega arith) (rw c.as_slice.ensures.items at c.in_ok-update.ensures) c.loop-tree.invariant)

pub returns : goal.returns
returns c = rw c.into_list.ensures (updates_end c.args.known.now (scope_seen c.args.scope.now) c.loop-tree.updates c.args.items.now c.loop-tree.tree-index _ (omega arith) c.loop-tree.invariant)
