use Rattle.std.proofs.Common.{rules}
use Rattle.lv_reading.specs.Structures.{next_entry}
use Rattle.lv_reading.proofs.StructureSteps.{next_keeps}
use Rattle.lv_reading.proofs.structures.next_entry.Goals as goal

pub returns-clause-given : goal.returns-clause-given
unfolding next_entry
returns-clause-given c = search rules

pub returns-clause-vocabulary : goal.returns-clause-vocabulary
returns-clause-vocabulary c = next_keeps c.args.words.now.parts.now c.args.voc.now c.args.end c.args.m.now c.args.sym c.args.items.now _ (returns-clause-given c) c.requires.vocabulary
