use Rattle.std.proofs.Common.{refl}
use Rattle.std.proofs.lemmas.Result.{err_from_is_err_and}
use Rattle.lv_fault.proofs.BehindLaws.{stops}
use Rattle.lv_run.specs.Requests.{check_behind, check_of}
use Rattle.lv_run.proofs.requests.read_check.Goals as goal

pub returns-in_err-index-clause-given : goal.returns-in_err-index-clause-given
unfolding check_of
returns-in_err-index-clause-given c =
    let p = err_from_is_err_and c.from_residual-in_err-index.result c.from_residual-in_err-index.ensures.1 in
    rw (p.1, p.2, c.in_ok-list.ensures, c.in_ok-system.ensures.given)
    (stops c.in_err-index.field-0.0 (check_behind c.in_ok-system.system c.in_ok-list.list.end c.in_ok-list.list.rest.now) _ _ c.in_err-index.ensures.given refl)
