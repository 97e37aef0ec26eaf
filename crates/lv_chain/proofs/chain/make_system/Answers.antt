use Rattle.std.proofs.Common.{◌≡◌, true, subst, sym}
use Rattle.lv_system.specs.declared.parts.Parts.{Parts}
use Rattle.lv_system.specs.Fits.{fits_parts}
use Rattle.lv_chain.proofs.FitsLaw.{chain_fits}
use Rattle.lv_chain.proofs.chain.make_system.Goals as goal

pub new-requires : goal.new-requires
new-requires c = subst (λ (p : Parts). fits_parts p ≡ true) (sym c.in_ok-parts.ensures) (chain_fits c.args.places c.requires.least c.requires.most)
