use Rattle.lv_struct.proofs.CompareLaws.{has_vocabulary_tells}
use Rattle.lv_struct.proofs.structure.Structure.has_vocabulary.Goals as goal

pub returns-clause-same : goal.returns-clause-same
returns-clause-same c = rw c.has_symbols_of.ensures.same (has_vocabulary_tells c.args.voc.now c.args.self.now)
