use Rattle.std.proofs.Common.{◌≡◌, ◌++◌, drop}
use Rattle.lv_labels.specs.Closing.{numbered}
use Rattle.lv_prophecy.specs.Witnesses.{choice_sentence, choice_sentences, read_choices}
use Rattle.lv_prophecy.proofs.witnesses.each_sentence.Given as goal

abbrev pub invariant-loop-k : goal.invariant-loop-k
invariant-loop-k l =
    l.sentences.items ++ numbered choice_sentence l.k (read_choices l.table.keys (drop l.k l.witnesses)) ≡ choice_sentences (read_choices l.table.keys l.witnesses)
