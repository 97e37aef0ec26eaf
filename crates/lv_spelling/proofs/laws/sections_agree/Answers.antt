use Rattle.lv_spelling.proofs.Declarations.{actions_agree, fairs_agree, invariants_agree}
use Rattle.lv_spelling.proofs.ItemLaw.{axioms_agree, inits_agree}
use Rattle.lv_spelling.proofs.Paths.{labels_agree, witnesses_agree, properties_agree}
use Rattle.lv_spelling.proofs.Symbols.{sorts_agree, symbols_agree}
use Rattle.lv_spelling.proofs.laws.sections_agree.Goals as goal

pub returns : goal.returns
returns c = record {
  sorts = sorts_agree;
  symbols = symbols_agree;
  axioms = axioms_agree;
  inits = inits_agree;
  actions = actions_agree;
  fairs = fairs_agree;
  labels = labels_agree;
  witnesses = witnesses_agree;
  property = properties_agree;
  invariants = invariants_agree;
}
