use Rattle.lv_grammar.proofs.ItemFits.{items_can_be_written}
use Rattle.lv_grammar.proofs.laws.shown_fits.Goals as goal

pub returns : goal.returns
returns c p fits words room le = items_can_be_written p fits words room le
