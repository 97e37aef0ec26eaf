use Rattle.std.proofs.Common.{rules, refl, sym, subst}
use Rattle.std.proofs.lemmas.Result.{IfOk-weaker}
use Rattle.lv_grammar.specs.ShownStructures.{structure_tree}
use Rattle.lv_grammar.specs.Structures.{IsStructure}
use Rattle.lv_grammar.proofs.StructureText.{structure_shown}
use Rattle.lv_show.proofs.texts.structure_tree.Goals as goal

pub returns-clause-tree : goal.returns-clause-tree
returns-clause-tree c = search rules

pub returns-clause-spells : goal.returns-clause-spells
returns-clause-spells c can =
    let p = c.args.system.now in
    let voc = c.args.voc.now in
    let w = c.args.m.now in
    IfOk-weaker c.whole_structure.result _ _ (λ t e. subst (IsStructure p voc w) (sym e) (structure_shown p voc w can (structure_tree p voc w) refl)) (returns-clause-tree c)
