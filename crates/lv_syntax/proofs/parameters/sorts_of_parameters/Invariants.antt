use Rattle.std.proofs.Common.{◌≡◌, ◌++◌, drop}
use Rattle.lv_grammar.specs.ReadItems.{ranges_of}
use Rattle.lv_syntax.specs.Parameters.{params_seen}
use Rattle.lv_syntax.proofs.parameters.sorts_of_parameters.Given as goal

abbrev pub invariant-loop-param : goal.invariant-loop-param
invariant-loop-param l = l.sorts.items ++ ranges_of (params_seen (drop l.param-index l.params)) ≡ ranges_of (params_seen l.params)
