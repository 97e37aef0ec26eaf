use Rattle.lv_check.proofs.AnswerLaws.{one_answer}
use Rattle.lv_check.proofs.laws.one_answer.Goals as goal

pub returns : goal.returns
returns c = one_answer
