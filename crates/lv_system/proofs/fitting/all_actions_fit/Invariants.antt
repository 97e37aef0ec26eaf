use Rattle.std.proofs.Common.{◌≡◌, drop}
use Rattle.lv_system.specs.Fits.{actions_fit}
use Rattle.lv_system.proofs.fitting.all_actions_fit.Given as goal

abbrev pub invariant-loop-action : goal.invariant-loop-action
invariant-loop-action l = actions_fit l.parts (drop l.action-index l.actions) ≡ actions_fit l.parts l.actions
