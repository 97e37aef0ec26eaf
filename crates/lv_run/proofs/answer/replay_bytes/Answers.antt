use Rattle.lv_command.specs.declared.mode.TextMode.TheVariants.{Replay}
use Rattle.lv_run.specs.Requests.{replay_seen}
use Rattle.lv_run.proofs.AnswerLemmas.{replay_answered, refusal_answered}
use Rattle.lv_run.proofs.answer.replay_bytes.Goals as goal

pub returns-in-Ok : goal.returns-in-Ok
returns-in-Ok c = replay_answered c.args.bytes.now (replay_seen c.in-Ok.request) c.replay_lasso.result c.in-Ok.ensures.found c.replay_lasso.ensures

pub returns-in-Err : goal.returns-in-Err
returns-in-Err c = refusal_answered Replay c.args.bytes.now c.in-Err.refusal c.refuse.result c.in-Err.ensures.refused c.refuse.ensures
