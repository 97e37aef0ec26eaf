use Rattle.std.proofs.Common.{◌≡◌, drop}
use Rattle.lv_grammar.specs.Known.{what_is}
use Rattle.lv_words.proofs.known.what_is.Given as goal

abbrev pub invariant-loop-known : goal.invariant-loop-known
invariant-loop-known l = what_is (drop l.known-index l.names) l.name ≡ what_is l.names l.name
