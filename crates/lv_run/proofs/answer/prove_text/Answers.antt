use Rattle.lv_command.specs.declared.mode.TextMode.TheVariants.{Prove}
use Rattle.lv_run.proofs.AnswerLemmas.{proof_answered, refusal_answered}
use Rattle.lv_run.proofs.answer.prove_text.Goals as goal

pub returns-in-Ok : goal.returns-in-Ok
returns-in-Ok c = proof_answered c.args.budget c.args.bytes.now c.in-Ok.system c.prove_system.result c.in-Ok.ensures.found c.prove_system.ensures

pub returns-in-Err : goal.returns-in-Err
returns-in-Err c = refusal_answered (Prove c.args.budget) c.args.bytes.now c.in-Err.refusal c.refuse.result c.in-Err.ensures.refused c.refuse.ensures
