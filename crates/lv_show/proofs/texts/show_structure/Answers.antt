use Rattle.std.proofs.Common.{rules, sym, subst}
use Rattle.lv_grammar.specs.Structures.{SpellsStructure}
use Rattle.lv_grammar.proofs.StructureText.{shown_spells}
use Rattle.lv_show.proofs.texts.show_structure.Goals as goal

pub returns-clause-text : goal.returns-clause-text
returns-clause-text c = search rules

pub returns-clause-spells : goal.returns-clause-spells
returns-clause-spells c can = subst (λ bytes. SpellsStructure c.args.system.now c.args.voc.now bytes c.args.m.now) (sym (returns-clause-text c))
    (shown_spells c.args.system.now c.args.voc.now c.args.m.now can)
