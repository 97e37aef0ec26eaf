use Rattle.std.proofs.Common.{drop}
use Rattle.std.specs.Prelude.{◌↔◌}
use Rattle.lv_cnf.specs.Nodes.{plains, AtomsBelow}
use Rattle.lv_cnf.proofs.prop.+atoms.Given as goal

abbrev pub invariant-atoms_below-loop-prop : goal.invariant-atoms_below-loop-prop
invariant-atoms_below-loop-prop l = AtomsBelow l.atoms (plains (drop l.prop-index l.props)) ↔ AtomsBelow l.atoms (plains l.props)
