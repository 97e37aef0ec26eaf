use Rattle.std.proofs.Common.{refl}
use Rattle.std.proofs.lemmas.Result.{err_from_is_err_and}
use Rattle.lv_fault.proofs.BehindLaws.{stops}
use Rattle.lv_run.specs.Requests.{replay_behind, replay_of}
use Rattle.lv_run.proofs.requests.read_replay.Goals as goal

pub returns-in_err-lasso-clause-given : goal.returns-in_err-lasso-clause-given
unfolding replay_of
returns-in_err-lasso-clause-given c =
    let p = err_from_is_err_and c.from_residual-in_err-lasso.result c.from_residual-in_err-lasso.ensures.1 in
    rw (p.1, p.2, c.in_ok-list.ensures, c.in_ok-system.ensures.given)
    (stops c.in_err-lasso.field-0.0 (replay_behind c.in_ok-system.system c.in_ok-list.list.end c.in_ok-list.list.rest.now) _ _ c.in_err-lasso.ensures.given refl)
