use Rattle.std.proofs.Common.{◌≡◌, ◌++◌, drop, map}
use Rattle.lv_lasso.specs.Shown.{shown_step}
use Rattle.lv_lasso.proofs.writing.steps.Given as goal

abbrev pub invariant-loop-each : goal.invariant-loop-each
invariant-loop-each l = l.items.items ++ map (shown_step l.parts) (drop l.each-index l.taken) ≡ map (shown_step l.parts) l.taken
