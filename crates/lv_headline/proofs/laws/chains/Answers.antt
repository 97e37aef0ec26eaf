use Rattle.lv_headline.proofs.Sound.{chain_holds}
use Rattle.lv_headline.proofs.laws.chains.Goals as goal

pub returns : goal.returns
returns c = chain_holds
