use Rattle.std.proofs.Common.{arith}
use Rattle.lv_lasso.proofs.steps.+steps_after.Goals as goal

pub steps_after-requires : goal.steps_after-requires
steps_after-requires t c = (omega (arith, c.if-room-eq0.false), c.requires)
