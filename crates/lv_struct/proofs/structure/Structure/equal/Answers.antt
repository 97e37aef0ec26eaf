use Rattle.lv_struct.proofs.CompareLaws.{tables_tell}
use Rattle.lv_struct.proofs.structure.Structure.equal.Goals as goal

pub returns : goal.returns
returns c = rw c.has_same_tables.ensures (tables_tell c.args.self.now c.args.other.now)
