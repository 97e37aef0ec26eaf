use Rattle.std.proofs.Common.{◌≡◌, drop}
use Rattle.lv_grammar.specs.WordKinds.{has_dot}
use Rattle.lv_words.proofs.words.holds_dot.Given as goal

abbrev pub invariant-loop-byte : goal.invariant-loop-byte
invariant-loop-byte l = has_dot (drop l.byte-index l.text) ≡ has_dot l.text
