use Rattle.lv_lasso.proofs.steps.+steps_after.Given as goal

abbrev pub decreases-steps_after : goal.decreases-steps_after
decreases-steps_after l = l.room
