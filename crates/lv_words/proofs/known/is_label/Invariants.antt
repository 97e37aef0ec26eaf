use Rattle.std.proofs.Common.{◌≡◌, eqb, drop}
use Rattle.lv_labels.specs.Once.{is_among}
use Rattle.lv_grammar.specs.Rules.{label_numbers}
use Rattle.lv_words.proofs.known.is_label.Given as goal

abbrev pub invariant-loop-what : goal.invariant-loop-what
invariant-loop-what l = is_among eqb l.number (label_numbers (drop l.what-index l.names)) ≡ is_among eqb l.number (label_numbers l.names)
