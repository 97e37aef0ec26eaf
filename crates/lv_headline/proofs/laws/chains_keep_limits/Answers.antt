use Rattle.lv_headline.proofs.ChainLimits.{chain_keeps_limits}
use Rattle.lv_headline.proofs.laws.chains_keep_limits.Goals as goal

pub returns : goal.returns
returns c = chain_keeps_limits
