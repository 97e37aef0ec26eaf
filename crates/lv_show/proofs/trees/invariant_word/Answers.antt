use Rattle.lv_show.proofs.trees.invariant_word.Goals as goal

pub returns : goal.returns
returns c = c.word.ensures
