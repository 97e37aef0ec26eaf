use Rattle.std.proofs.Common.{◌≡◌, drop}
use Rattle.lv_formula.specs.Vocabulary.{relation_in}
use Rattle.lv_formula.proofs.lookup.VocabularyLookup.relation.Given as goal

abbrev pub invariant-loop-shape : goal.invariant-loop-shape
invariant-loop-shape l = relation_in (drop l.shape-index l.self.relations) l.sym ≡ relation_in l.self.relations l.sym
