use Rattle.std.proofs.Common.{sym, subst, ◌∙◌, ap, length}
use Rattle.lv_struct.specs.Tables.{HasVocabulary}
use Rattle.lv_struct.proofs.MeaningLaws.{vocabulary-empty_structure}
use Rattle.lv_reading.proofs.structures.structure.Goals as goal

pub entries-requires-clause-vocabulary : goal.entries-requires-clause-vocabulary
entries-requires-clause-vocabulary c =
    let many = ap length c.as_slice.ensures.value ∙ c.in_ok-sizes.ensures.many in
    subst (HasVocabulary c.args.voc.now) (sym c.in_ok-empty.ensures) (vocabulary-empty_structure c.args.voc.now c.as_slice.result.now many)
