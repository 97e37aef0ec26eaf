use Rattle.std.proofs.Common.{◌≡◌, drop}
use Rattle.lv_formula.specs.Vocabulary.{constant_in}
use Rattle.lv_formula.proofs.lookup.VocabularyLookup.constant.Given as goal

abbrev pub invariant-loop-shape : goal.invariant-loop-shape
invariant-loop-shape l = constant_in (drop l.shape-index l.self.constants) l.sym ≡ constant_in l.self.constants l.sym
