use Rattle.std.proofs.Common.{◌≡◌, ◌++◌, drop}
use Rattle.lv_footprint.specs.Gathered.{gathered}
use Rattle.lv_monitor.specs.Conditions.{symbol_alike}
use Rattle.lv_monitor.proofs.comparing.push_symbols.Given as goal

abbrev pub invariant-loop-n : goal.invariant-loop-n
invariant-loop-n l = l.sentences.items ++ gathered symbol_alike l.n (drop l.n l.symbols) ≡ l.initial.sentences.items ++ gathered symbol_alike 0 l.symbols
