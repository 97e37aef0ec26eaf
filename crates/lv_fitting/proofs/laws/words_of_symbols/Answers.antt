use Rattle.lv_fitting.proofs.SaidWords.{says_word}
use Rattle.lv_fitting.proofs.laws.words_of_symbols.Goals as goal

pub returns : goal.returns
returns c = λ k p a fairs role. says_word k p a role (λ i. fairs)
