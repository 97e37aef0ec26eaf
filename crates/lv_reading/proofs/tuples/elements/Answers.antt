use Rattle.std.proofs.Common.{rules}
use Rattle.lv_reading.specs.Structures.{elements_in}
use Rattle.lv_fault.proofs.BehindLaws.{nothing_done}
use Rattle.lv_reading.proofs.TupleLaws.{in_range}
use Rattle.lv_reading.proofs.tuples.elements.Goals as goal

pub returns-clause-given : goal.returns-clause-given
unfolding elements_in
returns-clause-given c = search (rules, nothing_done)

pub returns-clause-in_range : goal.returns-clause-in_range
returns-clause-in_range c = in_range c.args.m.now.sizes c.args.sorts.now c.args.at c.args.items.now _ (returns-clause-given c)
