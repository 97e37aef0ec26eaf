use Rattle.std.proofs.Common.{◌≡◌, ◌+◌, drop}
use Rattle.lv_cnf.specs.Nodes.{plains, inners}
use Rattle.lv_cnf.proofs.prop.+free.Given as goal

abbrev pub invariant-variables-loop-prop : goal.invariant-variables-loop-prop
invariant-variables-loop-prop l = l.count + inners (plains (drop l.prop-index l.props)) ≡ l.free + inners (plains l.props)
