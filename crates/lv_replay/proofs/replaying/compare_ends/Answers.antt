use Rattle.std.proofs.Common.{sym, ◌∙◌}
use Rattle.std.proofs.lemmas.Bool.{false≢true}
use Rattle.lv_replay.proofs.ReplayLaw.{is_open, is_run}
use Rattle.lv_replay.proofs.replaying.compare_ends.Goals as goal

pub judge_fairness-requires-clause-run : goal.judge_fairness-requires-clause-run
judge_fairness-requires-clause-run c = is_run c.args.system.now c.args.lasso.now c.requires.fits c.args.first.now c.args.last.now c.args.states.now c.requires.played c.requires.fitting (c.equal.ensures.0 c.if-equal.true)

pub returns-else-equal : goal.returns-else-equal
returns-else-equal c = is_open c.args.system.now c.args.lasso.now c.requires.fits c.args.first.now c.args.last.now c.args.states.now c.requires.played (λ same. false≢true (sym c.if-equal.false ∙ c.equal.ensures.1 same))
