use Rattle.lv_chain.proofs.FitsLaw.{chain_fits}
use Rattle.lv_chain.proofs.laws.chains_fit.Goals as goal

pub returns : goal.returns
returns c = chain_fits
