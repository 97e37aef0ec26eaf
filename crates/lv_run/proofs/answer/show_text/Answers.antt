use Rattle.lv_command.specs.declared.mode.TextMode.TheVariants.{Show}
use Rattle.lv_run.proofs.AnswerLemmas.{layout_answered, refusal_answered}
use Rattle.lv_run.proofs.answer.show_text.Goals as goal

pub returns-in-Ok : goal.returns-in-Ok
returns-in-Ok c = layout_answered c.args.bytes.now c.in-Ok.system c.show_system.result c.in-Ok.ensures.found c.show_system.ensures

pub returns-in-Err : goal.returns-in-Err
returns-in-Err c = refusal_answered Show c.args.bytes.now c.in-Err.refusal c.refuse.result c.in-Err.ensures.refused c.refuse.ensures
