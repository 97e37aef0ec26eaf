use Rattle.std.proofs.Common.{◌≡◌, drop, map}
use Rattle.lv_struct.specs.Tables.{meaning}
use Rattle.lv_replay.specs.Fairness.{are_met}
use Rattle.lv_replay.proofs.meeting.are_met.Given as goal

abbrev pub invariant-loop-tuple : goal.invariant-loop-tuple
invariant-loop-tuple l = are_met l.f (map meaning l.states) (drop l.tuple-index l.tuples) ≡ are_met l.f (map meaning l.states) l.tuples
