use Rattle.lv_run.proofs.ChainLemmas.{chain_answered, keeps_limits}
use Rattle.lv_run.proofs.making.make_chain.Goals as goal

pub answer_made-requires : goal.answer_made-requires
answer_made-requires c = keeps_limits c.in_ok-system.system c.args.places c.in_ok-system.ensures c.requires.least c.requires.most

pub returns : goal.returns
returns c = chain_answered c.in_ok-system.system c.args.places c.answer_made.result c.in_ok-system.ensures c.answer_made.ensures
