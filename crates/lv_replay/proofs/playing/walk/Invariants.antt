use Rattle.std.proofs.Common.{drop}
use Rattle.lv_replay.proofs.PlayLaw.{Walking}
use Rattle.lv_replay.proofs.playing.walk.Given as goal

abbrev pub invariant-loop-step : goal.invariant-loop-step
invariant-loop-step l = Walking l.system l.fn.start l.steps l.initial.states.items l.m l.states.items (drop l.step-index l.steps)
