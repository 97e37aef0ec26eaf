use Rattle.lv_spelling.proofs.WordSays.{relation_says}
use Rattle.lv_spelling.proofs.WordAgain.{relation_again}
use Rattle.lv_spelling.proofs.laws.words_say.Goals as goal

pub returns : goal.returns
returns c = λ k role at text r. (relation_says k role at text r, relation_again k role at text r.sym r.sorts)
