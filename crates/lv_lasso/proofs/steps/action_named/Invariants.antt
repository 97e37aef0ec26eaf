use Rattle.std.proofs.Common.{◌≡◌, drop}
use Rattle.lv_lasso.specs.Reading.{action_named}
use Rattle.lv_lasso.proofs.steps.action_named.Given as goal

abbrev pub invariant-loop-i : goal.invariant-loop-i
invariant-loop-i l = action_named l.i (drop l.i l.actions) l.name ≡ action_named 0 l.actions l.name
