use Rattle.std.proofs.Common.{◌≡◌, List, ◌++◌, take, reverse}
use Rattle.lv_grammar.specs.Words.{Variable}
use Rattle.lv_words.specs.Scopes.{found_in, variables_seen}
use Rattle.lv_words.proofs.scope.Scope.+find.Given as goal

abbrev pub invariant-loop-variable : goal.invariant-loop-variable
invariant-loop-variable l = (vs : List Variable) → l.initial.found ≡ found_in vs l.name → l.found ≡ found_in (reverse (variables_seen (take l.variable-index l.variable-items)) ++ vs) l.name
