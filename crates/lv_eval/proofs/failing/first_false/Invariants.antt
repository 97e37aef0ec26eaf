use Rattle.lv_struct.specs.Tables.{meaning}
use Rattle.lv_eval.proofs.FirstFalseLaws.{AreTrueBefore}
use Rattle.lv_eval.proofs.failing.first_false.Given as goal

abbrev pub invariant-loop-i : goal.invariant-loop-i
invariant-loop-i l = AreTrueBefore (meaning l.m) l.fs l.i
