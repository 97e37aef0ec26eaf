use Rattle.std.proofs.Common.{sym, ◌∙◌, arith}
use Rattle.lv_replay.proofs.JudgeLaw.{property_is}
use Rattle.lv_replay.proofs.ReplayLaw.{states_long}
use Rattle.lv_replay.proofs.replaying.judge_property.Goals as goal

pub holds_at_start-requires : goal.holds_at_start-requires
holds_at_start-requires c = let a = states_long c.args.system.now c.args.lasso.now c.args.states.now c.requires.states in let b = c.requires.fits.loops in omega (arith, a, b)

pub returns-then-branch : goal.returns-then-branch
returns-then-branch c = (c.requires.run, c.requires.fair, sym (property_is c.args.system.now c.args.lasso.now c.requires.fits c.args.states.now c.requires.states) ∙ (sym c.in_ok-holds_at_start.ensures ∙ c.if-branch.true))

pub returns-else-branch : goal.returns-else-branch
returns-else-branch c = (c.requires.run, c.requires.fair, sym (property_is c.args.system.now c.args.lasso.now c.requires.fits c.args.states.now c.requires.states) ∙ (sym c.in_ok-holds_at_start.ensures ∙ c.if-branch.false))
