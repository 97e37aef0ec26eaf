use Rattle.lv_show.proofs.trees.eventually.Goals as goal

pub returns : goal.returns
returns c = c.pair.ensures
