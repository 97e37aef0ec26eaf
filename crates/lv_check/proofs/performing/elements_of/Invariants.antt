use Rattle.std.proofs.Common.{◌≡◌, ◌++◌, drop}
use Rattle.lv_struct.specs.Tables.{meaning}
use Rattle.lv_labels.specs.Monitor.{elements_in, params_in}
use Rattle.lv_check.proofs.performing.elements_of.Given as goal

abbrev pub invariant-loop-k : goal.invariant-loop-k
invariant-loop-k l = l.elements.items ++ params_in (meaning l.m) l.k (drop l.k l.action.params) ≡ elements_in (meaning l.m) l.action
