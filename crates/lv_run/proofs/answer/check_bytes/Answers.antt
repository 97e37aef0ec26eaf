use Rattle.lv_command.specs.declared.mode.TextMode.TheVariants.{Check}
use Rattle.lv_run.specs.Requests.{check_seen}
use Rattle.lv_run.proofs.AnswerLemmas.{check_answered, refusal_answered}
use Rattle.lv_run.proofs.answer.check_bytes.Goals as goal

pub returns-in-Ok : goal.returns-in-Ok
returns-in-Ok c = check_answered c.args.bytes.now (check_seen c.in-Ok.request) c.check_structure.result c.in-Ok.ensures.found c.check_structure.ensures

pub returns-in-Err : goal.returns-in-Err
returns-in-Err c = refusal_answered Check c.args.bytes.now c.in-Err.refusal c.refuse.result c.in-Err.ensures.refused c.refuse.ensures
