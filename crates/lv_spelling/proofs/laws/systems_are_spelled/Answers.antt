use Rattle.lv_spelling.proofs.SystemAgain.{system_again}
use Rattle.lv_spelling.proofs.SystemRead.{system_found}
use Rattle.lv_spelling.proofs.laws.systems_are_spelled.Goals as goal

pub returns : goal.returns
returns c = λ t p. (system_found t p, system_again p t)
