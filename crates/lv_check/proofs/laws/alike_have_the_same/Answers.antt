use Rattle.lv_check.proofs.AnswerLaws.{alike_have_the_same}
use Rattle.lv_check.proofs.laws.alike_have_the_same.Goals as goal

pub returns : goal.returns
returns c = alike_have_the_same
