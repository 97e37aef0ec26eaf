use Rattle.std.proofs.Common.{◌≡◌, ◌<◌, ◌^◌, drop, map}
use Rattle.lv_formula.specs.Measures.{depth_of_all}
use Rattle.lv_struct.specs.Tables.{meaning, size_in}
use Rattle.lv_replay.specs.Fairness.{condition_of, first_unmet}
use Rattle.lv_replay.proofs.meeting.first_unmet.Given as goal

abbrev pub invariant-loop-i : goal.invariant-loop-i
invariant-loop-i l = record {
  shallow : depth_of_all (map condition_of (drop l.i l.fairs)) < 2 ^ 32;
  rest : first_unmet (size_in l.start) (map meaning l.states) l.i (drop l.i l.fairs) ≡ first_unmet (size_in l.start) (map meaning l.states) 0 l.fairs;
}
