use Rattle.std.proofs.Common.{◌≡◌, drop, map}
use Rattle.lv_struct.specs.Tables.{meaning}
use Rattle.lv_replay.specs.Fairness.{is_met}
use Rattle.lv_replay.proofs.meeting.is_met.Given as goal

abbrev pub invariant-loop-m : goal.invariant-loop-m
invariant-loop-m l = is_met l.f l.tuple (map meaning (drop l.m-index l.states)) ≡ is_met l.f l.tuple (map meaning l.states)
