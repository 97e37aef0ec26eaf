use Rattle.std.proofs.Common.{◌≡◌, drop}
use Rattle.lv_struct.specs.Tables.{element_in}
use Rattle.lv_struct.proofs.structure.Structure.value.Given as goal

abbrev pub invariant-loop-constant : goal.invariant-loop-constant
invariant-loop-constant l = element_in (drop l.constant-index l.self.constants) l.sym ≡ element_in l.self.constants l.sym
