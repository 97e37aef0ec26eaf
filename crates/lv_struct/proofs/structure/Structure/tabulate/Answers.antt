use Rattle.std.proofs.Common.{map, ap, ◌∙◌}
use Rattle.lv_struct.specs.Tabulation.{constant_entry, relation_table}
use Rattle.lv_struct.proofs.Tabulate.{told_is_sound}
use Rattle.lv_struct.proofs.structure.Structure.tabulate.Goals as goal

pub invariant_of-result : goal.invariant_of-result
invariant_of-result g c =
    told_is_sound c.args.voc.now (g.I.Interpretation.meaning c.args.of.now) _ _ _ c.requires.sound c.requires.structure c.in_ok-sizes.ensures
    (c.in_ok-relations.ensures ∙ ap (map (relation_table (g.I.Interpretation.meaning c.args.of.now))) c.as_slice.ensures)
    (c.in_ok-constants.ensures ∙ ap (map (constant_entry (g.I.Interpretation.meaning c.args.of.now))) c.as_slice-2.ensures)
